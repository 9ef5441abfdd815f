use Rattle.{c104_run.specs.Rounds.claims_of, std.{proofs.Common.{◌++◌, ◌≡◌}, specs.List.{flat_map, range_with_len}}}

-- the claims of the inputs so far
abbrev pub invariant-loop-input : Rattle.c104_run.proofs.node_parts.add_claims.Given.invariant-loop-input
invariant-loop-input l = l.events.items ≡ l.initial.events.items ++ flat_map (claims_of l.switch) (range_with_len 0 l.input)
