use Rattle.{c104_plan.proofs.LabelledSettings.labelled_at, std.{proofs.Common.{map, ◌≡◌}, specs.List.range_with_len}}

-- the settings of the links so far are made
abbrev pub invariant-loop-link : Rattle.c104_plan.proofs.labelled.labelled_links.Given.invariant-loop-link
invariant-loop-link l = l.settings.items ≡ map (labelled_at l.plan l.table l.switch) (range_with_len 0 l.link)
