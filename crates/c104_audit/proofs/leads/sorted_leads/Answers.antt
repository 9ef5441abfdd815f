use Rattle.{c104_audit.specs.Tests.lead_in, c104_net.{proofs.SortedLeads.sorted_told, specs.Merges.by_ticket}}
use Rattle.{c104_net.specs.declared.leading.Lead.Lead as Leading, std.proofs.Common.{ap, ◌∙◌}}

pub returns : Rattle.c104_audit.proofs.leads.sorted_leads.Goals.returns
returns c =
    sorted_told (λ (x : Leading). (lead_in c.args.lists.now.traces x).1) c.in_ok-leads.leads.items c.sort_leads.new.leads.items c.in_ok-sort_leads.ensures
    ∙ ap by_ticket c.in_ok-leads.ensures
