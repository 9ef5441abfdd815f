use Rattle.{c104_audit.proofs.{ApartCalls.list_lent, CalledCounts.{count_there, counts_over}}, c104_run.proofs.KeptElements.got}
use Rattle.std.proofs.{Common.{None, Some, arith, get_or, subst, sym, ◌<◌, ◌∙◌, ◌≡◌}, lemmas.Option.slice_get-get_or}
use Rattle.c104_audit.proofs.called.count_call.Goals as goal

pub returns-then-seat-counts-clause-told : goal.returns-then-seat-counts-clause-told
returns-then-seat-counts-clause-told c =
    let lists = c.args.lists.now in
    let seat = c.in-Some.seat in
    let lent = list_lent lists.calls seat c.index-as_slice-seat.result c.as_slice-calls.result.now (got lists.calls seat c.index-as_slice-seat.result c.index-as_slice-seat.result (subst (λ xs. c.index-as_slice-seat.result ≡ get_or xs seat c.index-as_slice-seat.result) c.as_slice.ensures c.index-as_slice-seat.is) (subst (λ n. seat < n) c.requires.long c.if-seat-counts.true)) c.as_slice-calls.ensures in
    count_there lists c.args.leads.now c.requires.leads c.args.at seat _ c.in-Some.entry.now c.args.counts.now c.as_slice-calls.result.now _ c.next_count.result (slice_get-get_or c.args.leads.now c.args.at _ c.requires.at) c.in-Some.ensures.0 c.in-Some.ensures.1 c.if-seat-counts.true lent c.next_count.ensures

pub returns-else-seat-counts-clause-told : goal.returns-else-seat-counts-clause-told
returns-else-seat-counts-clause-told c =
    counts_over c.args.lists.now c.args.leads.now c.args.at _ c.args.counts.now (slice_get-get_or c.args.leads.now c.args.at _ c.requires.at)
    (λ s inside own. (let both : Some c.in-Some.seat ≡ Some s = sym c.in-Some.ensures.0 ∙ own in let same : c.in-Some.seat ≡ s = cc in let past = c.if-seat-counts.false in omega (arith, inside, past, same)))

pub returns-in_default-clause-told : goal.returns-in_default-clause-told
returns-in_default-clause-told c =
    counts_over c.args.lists.now c.args.leads.now c.args.at _ c.args.counts.now (slice_get-get_or c.args.leads.now c.args.at _ c.requires.at)
    (λ s inside own. (let never : None ≡ Some s = sym c.in_default.ensures ∙ own in cc))
