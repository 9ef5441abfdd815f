use Rattle.{c104_rows.specs.{Numbers.each_number, Sights.links_found}, std.proofs.Common.◌≡◌}

-- those so far
abbrev pub invariant-loop-switch : Rattle.c104_rows.proofs.finding.find_in_switches.Given.invariant-loop-switch
invariant-loop-switch l = l.counts ≡ each_number (links_found l.net) l.switch l.initial.counts
