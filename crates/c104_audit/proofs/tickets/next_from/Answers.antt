use Rattle.{c104_audit.proofs.ApartCalls.skip_next, c104_event.specs.declared.calls.Call.Call, c104_run.proofs.KeptElements.got}
use Rattle.std.proofs.Common.{subst, sym, ◌<◌}

pub loop-at-preserved : Rattle.c104_audit.proofs.tickets.next_from.Goals.loop-at-preserved
loop-at-preserved c = skip_next c.args.calls.now c.args.from c.loop-at.at c.args.ticket c.index-calls-at.result (got c.args.calls.now c.loop-at.at c.index-calls-at.result c.index-calls-at.result c.index-calls-at.is c.loop-at-test.true) (subst (λ (x : Call). x.ticket < c.args.ticket) (sym c.index-calls-at.is) c.if-calls-at.false) c.loop-at.invariant
