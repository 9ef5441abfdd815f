use Rattle.{c104_rows.specs.{Numbers.each_number, Sights.{token_found, token_out}}, std.proofs.Common.◌≡◌}

-- those so far
abbrev pub invariant-loop-index : Rattle.c104_rows.proofs.finding.find_out.Given.invariant-loop-index
invariant-loop-index l = l.counts ≡ each_number (λ k. token_found (token_out l.net l.switch l.link k)) l.index l.initial.counts
