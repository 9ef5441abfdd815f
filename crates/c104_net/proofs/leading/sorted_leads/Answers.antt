use Rattle.c104_net.{proofs.SortedLeads.sorted_told, specs.{Merges.by_ticket, Replays.lead_event, declared.leading.Lead.Lead}}
use Rattle.std.proofs.Common.{ap, ◌∙◌}

pub returns : Rattle.c104_net.proofs.leading.sorted_leads.Goals.returns
returns c switches =
    sorted_told (λ (x : Lead). (lead_event switches c.args.traces.now x).1) c.in_ok-leads.leads.items c.sort_leads.new.leads.items c.in_ok-sort_leads.ensures
    ∙ ap by_ticket (c.in_ok-leads.ensures switches)
