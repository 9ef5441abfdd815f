use Rattle.{c104_check.specs.declared.ports.SwitchPort.SwitchPort, c104_rows.{proofs.Searches.{meets_end, meets_step}, specs.Waits.meets}}
use Rattle.{c104_rows.specs.{Waits.meets_by, declared.holders.TheConstants.MOST_INPUTS}, std.proofs.Common.{Bool, Option, ap, arith, sym}}
use Rattle.std.proofs.Common.{◌+◌, ◌-◌, ◌||◌, ◌∙◌}
use Rattle.c104_rows.proofs.waits.is_locked.Goals as goal

pub loop-turn-preserved : goal.loop-turn-preserved
loop-turn-preserved c =
    let r = c.args.net.now in
    let k = c.loop-turn._turn in
    let rest = meets r c.args.input (MOST_INPUTS - (k + 1)) in
    sym (ap (λ (b : Bool). b || rest c.in-Some.next) c.if-is_port.false) ∙ ap (λ (b : Bool). b || rest c.in-Some.next) c.is_port.ensures
    ∙ ap (λ (y : Option SwitchPort). meets_by c.args.input y rest) c.in-Some.ensures
    ∙ sym (meets_step r c.args.input MOST_INPUTS k c.loop-turn.at c.loop-turn-test.true) ∙ c.loop-turn.invariant

pub returns-then-is_port : goal.returns-then-is_port
returns-then-is_port c =
    let r = c.args.net.now in
    let k = c.loop-turn._turn in
    let rest = meets r c.args.input (MOST_INPUTS - (k + 1)) in
    sym (ap (λ (b : Bool). b || rest c.in-Some.next) c.if-is_port.true) ∙ ap (λ (b : Bool). b || rest c.in-Some.next) c.is_port.ensures
    ∙ ap (λ (y : Option SwitchPort). meets_by c.args.input y rest) c.in-Some.ensures
    ∙ sym (meets_step r c.args.input MOST_INPUTS k c.loop-turn.at c.loop-turn-test.true) ∙ c.loop-turn.invariant

pub returns-in_default : goal.returns-in_default
returns-in_default c =
    let r = c.args.net.now in
    let k = c.loop-turn._turn in
    let rest = meets r c.args.input (MOST_INPUTS - (k + 1)) in
    ap (λ (y : Option SwitchPort). meets_by c.args.input y rest) c.in_default.ensures
    ∙ sym (meets_step r c.args.input MOST_INPUTS k c.loop-turn.at c.loop-turn-test.true) ∙ c.loop-turn.invariant

pub returns : goal.returns
returns c = sym (meets_end c.args.net.now c.args.input MOST_INPUTS c.loop-turn._turn c.loop-turn.at (omega arith)) ∙ c.loop-turn.invariant
