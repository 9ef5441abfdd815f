use Rattle.{c104_event.specs.declared.events.Event.Event, std.{proofs.Common.{map, ◌++◌, ◌≡◌}, specs.List.range_with_len}}

-- the claims so far
abbrev pub invariant-loop-output : Rattle.c104_run.proofs.node_parts.add_claims_of.Given.invariant-loop-output
invariant-loop-output l = l.events.items ≡ l.initial.events.items ++ map (Event.Claim l.switch l.input) (range_with_len 0 l.output)
