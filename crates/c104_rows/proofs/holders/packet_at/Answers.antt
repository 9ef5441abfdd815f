use Rattle.c104_rows.{proofs.Searches.{packet_end, packet_step}, specs.Holders.{Trail, after_trail, packet_from}}
use Rattle.{c104_rows.specs.declared.holders.TheConstants.MOST_INPUTS, std.proofs.Common.{ap, arith, sym, ◌+◌, ◌-◌, ◌∙◌}}
use Rattle.c104_rows.proofs.holders.packet_at.Goals as goal

pub loop-turn-preserved : goal.loop-turn-preserved
loop-turn-preserved c =
    let r = c.args.net.now in
    let k = c.loop-turn._turn in
    ap (λ (t : Trail). after_trail t (packet_from r (MOST_INPUTS - (k + 1)))) c.in-On.ensures
    ∙ sym (packet_step r MOST_INPUTS k c.loop-turn.at c.loop-turn-test.true) ∙ c.loop-turn.invariant

pub returns-in-Found : goal.returns-in-Found
returns-in-Found c =
    let r = c.args.net.now in
    let k = c.loop-turn._turn in
    ap (λ (t : Trail). after_trail t (packet_from r (MOST_INPUTS - (k + 1)))) c.in-Found.ensures
    ∙ sym (packet_step r MOST_INPUTS k c.loop-turn.at c.loop-turn-test.true) ∙ c.loop-turn.invariant

pub returns-in-Lost : goal.returns-in-Lost
returns-in-Lost c =
    let r = c.args.net.now in
    let k = c.loop-turn._turn in
    ap (λ (t : Trail). after_trail t (packet_from r (MOST_INPUTS - (k + 1)))) c.in-Lost.ensures
    ∙ sym (packet_step r MOST_INPUTS k c.loop-turn.at c.loop-turn-test.true) ∙ c.loop-turn.invariant

pub returns : goal.returns
returns c =
    sym (packet_end c.args.net.now MOST_INPUTS c.loop-turn._turn c.loop-turn.at (omega arith)) ∙ c.loop-turn.invariant
