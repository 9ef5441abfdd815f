use Rattle.{c104_plan.proofs.LabelledSettings.port_switch_by, std.{proofs.Common.{map, ◌≡◌}, specs.List.range_with_len}}

-- the switches so far are made
abbrev pub invariant-loop-switch : Rattle.c104_plan.proofs.labelled.port_labelled_switches.Given.invariant-loop-switch
invariant-loop-switch l = l.switches.items ≡ map (port_switch_by l.plan l.tables l.groups) (range_with_len 0 l.switch)
