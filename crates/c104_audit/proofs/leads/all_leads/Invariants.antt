use Rattle.{c104_audit.specs.{Audits.is_leading, Leads.leads_from, Tests.lead_in}, c104_node.specs.declared.acts.Entry.Entry}
use Rattle.std.proofs.Common.{drop, map, ◌++◌, ◌≡◌}

-- what was added, and what leads in the traces that are left, is all
abbrev pub invariant-loop-place : Rattle.c104_audit.proofs.leads.all_leads.Given.invariant-loop-place
invariant-loop-place l =
    map (lead_in l.lists.traces) l.leads.items ++ leads_from (λ (e : Entry). e.ticket) (is_leading l.lists.switches l.lists.wires) l.place (drop l.place l.lists.traces)
    ≡ leads_from (λ (e : Entry). e.ticket) (is_leading l.lists.switches l.lists.wires) 0 l.lists.traces
