use Rattle.{c104_net.{proofs.GatheredLeads.{add_on, pass_on}, specs.declared.leading.Lead.Lead}, std.proofs.Common.{Global, Some, Vec, ap}}
use Rattle.std.proofs.{Common.{refl, slice_get, sym, ◌∙◌, ◌≡◌}, lemmas.Option.slice_get_read}
use Rattle.c104_net.proofs.leading.add_leads.Goals.{else-is_leading, then-is_leading+in_ok-push}

pub loop-at-preserved : Rattle.c104_net.proofs.leading.add_leads.Goals.loop-at-preserved
loop-at-preserved c switches traces there =
    let here : slice_get c.args.trace.now c.loop-at.at ≡ Some c.index-trace-at.result = slice_get_read c.args.trace.now _ c.loop-at.at c.index-trace-at.result refl c.loop-at-test.true c.index-trace-at.is in
    elim c.if-is_leading.branch [
      | then-is_leading+in_ok-push w ↦ add_on switches traces c.args.place c.loop-at.at c.args.trace.now c.index-trace-at.result c.loop-at.leads.items c.if-is_leading.leads.items _ there here (sym c.is_leading.ensures ∙ w.if-is_leading.true) (ap (λ (v : Vec Lead Global). v.items) w.leads-is ∙ w.in_ok-push.ensures.items) (c.loop-at.invariant switches traces there)
      | else-is_leading w ↦ pass_on switches traces c.args.place c.loop-at.at c.args.trace.now c.index-trace-at.result c.loop-at.leads.items c.if-is_leading.leads.items _ here (sym c.is_leading.ensures ∙ w.if-is_leading.false) (ap (λ (v : Vec Lead Global). v.items) w.leads-is) (c.loop-at.invariant switches traces there)
    ]
