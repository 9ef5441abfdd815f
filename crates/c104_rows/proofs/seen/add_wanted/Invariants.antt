use Rattle.{c104_rows.specs.States.wish_of, std.{proofs.Common.{◌++◌, ◌≡◌}, specs.List.{flat_map, range_with_len}}}

-- the wanted outputs so far
abbrev pub invariant-loop-output : Rattle.c104_rows.proofs.seen.add_wanted.Given.invariant-loop-output
invariant-loop-output l = l.list.items ≡ l.initial.list.items ++ flat_map (wish_of l.net l.round l.input l.packet l.locked) (range_with_len 0 l.output)
