use Rattle.{c104_audit.proofs.CalledLeads.told_on, c104_net.specs.{Replays.lead_event, ToldEvents.told_event}}
use Rattle.{c104_net.specs.declared.leading.Lead.Lead as Leading, std.proofs.{Common.{ap, get_or, ◌∙◌}, lemmas.Option.slice_get-get_or}}

abbrev none : Leading
none = record { ticket = 0; place = 0; at = 0 }

pub loop-lead-preserved : Rattle.c104_audit.proofs.tellings.events_of.Goals.loop-lead-preserved
loop-lead-preserved c =
    let lead : Leading = get_or c.args.leads.now c.loop-lead.lead-index none in
    told_on c.args.lists.now c.args.leads.now c.requires c.loop-lead.lead-index lead c.in_ok-event.event c.loop-lead.events.items c.push.new.self.items _
    (slice_get-get_or c.args.leads.now c.loop-lead.lead-index none c.loop-lead-test.true)
    (c.in_ok-event.ensures ∙ ap (λ ts. told_event (lead_event c.args.lists.now.switches ts lead)) c.as_slice-traces.ensures) c.in_ok-push.ensures.items c.loop-lead.invariant
