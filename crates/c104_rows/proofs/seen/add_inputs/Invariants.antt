use Rattle.{c104_rows.specs.States.wishes_of, std.{proofs.Common.{◌++◌, ◌≡◌}, specs.List.{flat_map, range_with_len}}}

-- what the inputs so far want
abbrev pub invariant-loop-place : Rattle.c104_rows.proofs.seen.add_inputs.Given.invariant-loop-place
invariant-loop-place l = l.list.items ≡ l.initial.list.items ++ flat_map (wishes_of l.net l.still l.round) (range_with_len 0 l.place)
