use Rattle.{c104_audit.specs.{Audits.is_leading, Leads.leads_at, Tests.lead_in}, c104_node.specs.declared.acts.Entry.Entry}
use Rattle.std.proofs.Common.{drop, map, ◌++◌, ◌≡◌}

-- what was added, and what leads among the entries that are left, is all
abbrev pub invariant-loop-at : Rattle.c104_audit.proofs.leads.add_leads.Given.invariant-loop-at
invariant-loop-at l =
    map (lead_in l.lists.traces) l.leads.items ++ leads_at (λ (e : Entry). e.ticket) (is_leading l.lists.switches l.lists.wires) l.place (drop l.at l.trace)
    ≡ map (lead_in l.lists.traces) l.initial.leads.items ++ leads_at (λ (e : Entry). e.ticket) (is_leading l.lists.switches l.lists.wires) l.place l.trace
