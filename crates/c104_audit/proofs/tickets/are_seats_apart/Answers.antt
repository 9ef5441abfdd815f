use Rattle.c104_audit.{proofs.ApartCalls.{apart_by, list_lent}, specs.Leads.{AreRising, list_at}}
use Rattle.{c104_event.specs.declared.calls.Call.Call, c104_run.proofs.KeptElements.got, std.proofs.Common.{IsTrue, get_or, subst, ◌≡◌}}
use Rattle.c104_audit.proofs.tickets.are_seats_apart.Goals as goal

pub are_apart-requires-clause-calls : goal.are_apart-requires-clause-calls
are_apart-requires-clause-calls c = subst (AreRising (λ (c : Call). c.ticket)) (list_lent c.args.lists.now.calls c.args.seat c.index-calls-seat.result c.as_slice.result.now (got c.args.lists.now.calls c.args.seat c.index-calls-seat.result c.index-calls-seat.result (subst (λ xs. c.index-calls-seat.result ≡ get_or xs c.args.seat c.index-calls-seat.result) c.as_slice-calls.ensures c.index-calls-seat.is) c.requires.seat) c.as_slice.ensures) c.requires.rising

pub are_apart-requires-clause-others : goal.are_apart-requires-clause-others
are_apart-requires-clause-others c = subst (AreRising (λ (c : Call). c.ticket)) (list_lent c.args.lists.now.calls c.args.other c.index-calls-other.result c.as_slice-2.result.now (got c.args.lists.now.calls c.args.other c.index-calls-other.result c.index-calls-other.result (subst (λ xs. c.index-calls-other.result ≡ get_or xs c.args.other c.index-calls-other.result) c.as_slice-calls.ensures c.index-calls-other.is) c.requires.other) c.as_slice-2.ensures) c.requires.others

pub returns : goal.returns
returns c = apart_by (IsTrue c.are_apart.result) (list_at c.args.lists.now.calls c.args.seat) (list_at c.args.lists.now.calls c.args.other) c.as_slice.result.now c.as_slice-2.result.now
    (list_lent c.args.lists.now.calls c.args.seat c.index-calls-seat.result c.as_slice.result.now (got c.args.lists.now.calls c.args.seat c.index-calls-seat.result c.index-calls-seat.result (subst (λ xs. c.index-calls-seat.result ≡ get_or xs c.args.seat c.index-calls-seat.result) c.as_slice-calls.ensures c.index-calls-seat.is) c.requires.seat) c.as_slice.ensures)
    (list_lent c.args.lists.now.calls c.args.other c.index-calls-other.result c.as_slice-2.result.now (got c.args.lists.now.calls c.args.other c.index-calls-other.result c.index-calls-other.result (subst (λ xs. c.index-calls-other.result ≡ get_or xs c.args.other c.index-calls-other.result) c.as_slice-calls.ensures c.index-calls-other.is) c.requires.other) c.as_slice-2.ensures)
    c.are_apart.ensures
