use Rattle.{c104_net.proofs.GatheredLeads.trace_on, std.proofs.Common.{Some, ap, refl, slice_get, sym, ◌∙◌, ◌≡◌}}
use Rattle.std.proofs.lemmas.Option.{slice_get_read}

pub loop-place-preserved : Rattle.c104_net.proofs.leading.all_leads.Goals.loop-place-preserved
loop-place-preserved c switches =
    let there : slice_get c.args.traces.now c.loop-place.place ≡ Some c.as_slice.result.now = slice_get_read c.args.traces.now _ c.loop-place.place c.index-traces-place.result refl c.loop-place-test.true c.index-traces-place.is ∙ ap Some (sym c.as_slice.ensures) in
    trace_on switches c.args.traces.now c.loop-place.place c.as_slice.result.now c.loop-place.leads.items c.add_leads.new.leads.items _ there (c.in_ok-add_leads.ensures switches c.args.traces.now there) (c.loop-place.invariant switches)
