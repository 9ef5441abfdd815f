use Rattle.{c104_audit.specs.{Audits.led_by, Tests.lead_in}, std.proofs.Common.{drop, map, ◌++◌, ◌≡◌}}

-- what was told, and what is left to tell, is all
abbrev pub invariant-loop-lead : Rattle.c104_audit.proofs.tellings.events_of.Given.invariant-loop-lead
invariant-loop-lead l =
    l.events.items ++ led_by l.lists.switches l.lists.wires (map (lead_in l.lists.traces) (drop l.lead-index l.leads))
    ≡ led_by l.lists.switches l.lists.wires (map (lead_in l.lists.traces) l.leads)
