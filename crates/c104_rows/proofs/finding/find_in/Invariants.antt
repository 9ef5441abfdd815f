use Rattle.{c104_rows.specs.{Numbers.each_number, Sights.{token_found, token_in}}, std.proofs.Common.◌≡◌}

-- those so far
abbrev pub invariant-loop-index : Rattle.c104_rows.proofs.finding.find_in.Given.invariant-loop-index
invariant-loop-index l = l.counts ≡ each_number (λ k. token_found (token_in l.net l.port k)) l.index l.initial.counts
