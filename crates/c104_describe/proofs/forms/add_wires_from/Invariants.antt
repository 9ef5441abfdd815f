use Rattle.{c104_describe.specs.ShapeLayouts.{layout_of, parallel}, c104_plan.specs.Layouts.wire_at, std.proofs.Common.{◌++◌, ◌≡◌}}
use Rattle.std.specs.List.{flat_map, range_with_len}

-- the wires at the links so far have joined the list
abbrev pub invariant-loop-link : Rattle.c104_describe.proofs.forms.add_wires_from.Given.invariant-loop-link
invariant-loop-link l = l.wires.items ≡ l.fn.wires.items ++ flat_map (wire_at (parallel l.count (layout_of l.form)) l.switch) (range_with_len 0 l.link)
