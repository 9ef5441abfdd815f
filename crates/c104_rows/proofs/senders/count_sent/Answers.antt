use Rattle.c104_rows.{proofs.Searches.{count_end, count_step}, specs.Senders.{count_from, counted, size_at}}
use Rattle.{c104_rows.specs.declared.senders.TheConstants.SENT_LIMIT, std.proofs.Common.{Option, ap, arith, sym, ℕ, ◌+◌, ◌-◌, ◌∙◌, ◌≡◌}}
use Rattle.c104_rows.proofs.senders.count_sent.Goals as goal

pub loop-number-preserved : goal.loop-number-preserved
loop-number-preserved c =
    let sizes = size_at c.args.net.now c.args.terminal in
    let k = c.loop-number.number in
    ap (λ (o : Option ℕ). counted o k (count_from sizes (SENT_LIMIT - (k + 1)) (k + 1))) c.in-Some.ensures
    ∙ sym (count_step sizes SENT_LIMIT k c.loop-number-test.true) ∙ c.loop-number.invariant

pub returns-in-None : goal.returns-in-None
returns-in-None c =
    let sizes = size_at c.args.net.now c.args.terminal in
    let k = c.loop-number.number in
    ap (λ (o : Option ℕ). counted o k (count_from sizes (SENT_LIMIT - (k + 1)) (k + 1))) c.in-None.ensures
    ∙ sym (count_step sizes SENT_LIMIT k c.loop-number-test.true) ∙ c.loop-number.invariant

pub returns : goal.returns
returns c =
    let sizes = size_at c.args.net.now c.args.terminal in
    let all : SENT_LIMIT ≡ c.loop-number.number = omega arith in
    all ∙ sym (count_end sizes SENT_LIMIT c.loop-number.number (omega arith)) ∙ c.loop-number.invariant
