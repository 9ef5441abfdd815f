use Rattle.{c104_plan.specs.Layouts.{cube, wires_from}, std.{proofs.Common.◌≡◌, specs.List.{flat_map, range_with_len}}}

-- the wires of the switches so far are made
abbrev pub invariant-loop-switch : Rattle.c104_describe.proofs.fills.cube_wires.Given.invariant-loop-switch
invariant-loop-switch l = l.wires.items ≡ flat_map (wires_from (cube l.dimensions)) (range_with_len 0 l.switch)
