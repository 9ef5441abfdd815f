use Rattle.{c104_plan.{proofs.LabelledSettings.port_labelled_at, specs.LabelledImages.{port_grouped, port_table}}, std.proofs.Common.map}
use Rattle.std.{proofs.Common.◌≡◌, specs.List.range_with_len}

-- the settings of the links so far are made
abbrev pub invariant-loop-link : Rattle.c104_plan.proofs.labelled.port_labelled_links.Given.invariant-loop-link
invariant-loop-link l = l.settings.items ≡ map (port_labelled_at l.plan (port_table l.tables l.switch) (port_grouped l.groups l.switch) l.switch) (range_with_len 0 l.link)
