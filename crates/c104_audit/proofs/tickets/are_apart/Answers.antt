use Rattle.{c104_audit.proofs.ApartCalls.left_next, c104_run.proofs.KeptElements.{drop_next, got}, std.proofs.Common.{IsTrue, drop, false}}
use Rattle.std.proofs.Common.{sym, true, ◌+◌, ◌∙◌, ◌≡◌}

pub loop-call-preserved : Rattle.c104_audit.proofs.tickets.are_apart.Goals.loop-call-preserved
loop-call-preserved c = left_next c.args.calls.now c.args.others.now (drop c.loop-call.call-index c.args.calls.now) (drop c.loop-call.met c.args.others.now) (drop (c.loop-call.call-index + 1) c.args.calls.now) (drop c.next_from-met.result c.args.others.now) c.next_from-met.ensures.gone c.call-item.result
    (drop_next c.args.calls.now c.loop-call.call-index c.call-item.result (got c.args.calls.now c.loop-call.call-index c.call-item.result c.call-item.result c.call-item.is c.loop-call-test.true))
    c.next_from-met.ensures.split c.next_from-met.ensures.below c.next_from-met.ensures.next
    (λ is. (let yes : IsTrue c.stands.result = c.stands.ensures.1 is in let no = c.if-stands.false in let never : true ≡ false = sym yes ∙ no in cc))
    c.loop-call.invariant
