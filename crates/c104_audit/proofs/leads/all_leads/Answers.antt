use Rattle.{c104_audit.{proofs.GatheredLeads.trace_on, specs.Audits.is_leading}, c104_run.proofs.KeptElements.got, std.proofs.Common.get_or}
use Rattle.std.proofs.Common.{length, subst, ◌<◌, ◌≡◌}

pub loop-place-preserved : Rattle.c104_audit.proofs.leads.all_leads.Goals.loop-place-preserved
loop-place-preserved c = trace_on (is_leading c.args.lists.now.switches c.args.lists.now.wires) c.args.lists.now.traces c.loop-place.place c.index-traces-place.result c.as_slice.result.now c.loop-place.leads.items c.add_leads.new.leads.items _
    (got c.args.lists.now.traces c.loop-place.place c.index-traces-place.result c.index-traces-place.result (subst (λ xs. c.index-traces-place.result ≡ get_or xs c.loop-place.place c.index-traces-place.result) c.as_slice-traces.ensures c.index-traces-place.is) (subst (λ xs. c.loop-place.place < length xs) c.as_slice-traces.ensures c.loop-place-test.true))
    c.as_slice.ensures c.in_ok-add_leads.ensures c.loop-place.invariant
