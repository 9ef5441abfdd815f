use Rattle.{c104_rows.specs.{Numbers.each_number, Sights.links_seen}, std.proofs.Common.◌≡◌}

-- those so far
abbrev pub invariant-loop-switch : Rattle.c104_rows.proofs.sights.see_switches.Given.invariant-loop-switch
invariant-loop-switch l = l.counts ≡ each_number (links_seen l.net.network) l.switch l.initial.counts
