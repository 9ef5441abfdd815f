use Rattle.c104_rows.{proofs.Searches.{before_end, before_step}, specs.Senders.{Fit, after_fit, sending_before, size_at}}
use Rattle.std.proofs.Common.{ap, arith, sym, ◌+◌, ◌-◌, ◌∙◌}
use Rattle.c104_rows.proofs.senders.sending_before.Goals as goal

pub loop-back-preserved : goal.loop-back-preserved
loop-back-preserved c =
    let sizes = size_at c.args.net.now c.args.terminal in
    let n = c.args.count - (c.loop-back.back + 1) in
    ap (λ (f : Fit). after_fit f n (sending_before sizes n)) c.in-Before.ensures
    ∙ sym (before_step sizes c.args.count c.loop-back.back c.loop-back.left c.loop-back-test.true) ∙ c.loop-back.invariant

pub returns-in-Nowhere : goal.returns-in-Nowhere
returns-in-Nowhere c =
    let sizes = size_at c.args.net.now c.args.terminal in
    let n = c.args.count - (c.loop-back.back + 1) in
    ap (λ (f : Fit). after_fit f n (sending_before sizes n)) c.in-Nowhere.ensures
    ∙ sym (before_step sizes c.args.count c.loop-back.back c.loop-back.left c.loop-back-test.true) ∙ c.loop-back.invariant

pub returns-in-Here : goal.returns-in-Here
returns-in-Here c =
    let sizes = size_at c.args.net.now c.args.terminal in
    let n = c.args.count - (c.loop-back.back + 1) in
    ap (λ (f : Fit). after_fit f n (sending_before sizes n)) c.in-Here.ensures
    ∙ sym (before_step sizes c.args.count c.loop-back.back c.loop-back.left c.loop-back-test.true) ∙ c.loop-back.invariant

pub returns : goal.returns
returns c =
    let sizes = size_at c.args.net.now c.args.terminal in
    sym (before_end sizes c.args.count c.loop-back.back c.loop-back.left (omega (arith, c.loop-back-test.false))) ∙ c.loop-back.invariant
