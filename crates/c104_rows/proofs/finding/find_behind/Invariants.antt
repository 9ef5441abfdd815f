use Rattle.{c104_rows.specs.{Numbers.each_number, Sights.behind_found}, std.proofs.Common.◌≡◌}

-- those so far
abbrev pub invariant-loop-number : Rattle.c104_rows.proofs.finding.find_behind.Given.invariant-loop-number
invariant-loop-number l = l.counts ≡ each_number (behind_found l.terminal l.gone) l.number l.initial.counts
