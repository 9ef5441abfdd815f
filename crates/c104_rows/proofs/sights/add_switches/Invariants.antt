use Rattle.{c104_rows.specs.{Numbers.each_number, Sights.links_levels}, std.proofs.Common.◌≡◌}

-- those so far
abbrev pub invariant-loop-switch : Rattle.c104_rows.proofs.sights.add_switches.Given.invariant-loop-switch
invariant-loop-switch l = l.levels ≡ each_number (links_levels l.net.network) l.switch l.initial.levels
