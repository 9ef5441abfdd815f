use Rattle.{c104_plan.specs.Layouts.{cube, wire_at}, std.{proofs.Common.{◌++◌, ◌≡◌}, specs.List.{flat_map, range_with_len}}}

-- the wires at the links so far have joined the list
abbrev pub invariant-loop-link : Rattle.c104_describe.proofs.fills.add_cube_wires.Given.invariant-loop-link
invariant-loop-link l = l.wires.items ≡ l.fn.wires.items ++ flat_map (wire_at (cube l.dimensions) l.switch) (range_with_len 0 l.link)
