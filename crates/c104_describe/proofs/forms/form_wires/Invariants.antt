use Rattle.{c104_describe.specs.ShapeLayouts.{layout_of, parallel}, c104_plan.specs.Layouts.wires_from, std.proofs.Common.◌≡◌}
use Rattle.std.specs.List.{flat_map, range_with_len}

-- the wires of the switches so far are made
abbrev pub invariant-loop-switch : Rattle.c104_describe.proofs.forms.form_wires.Given.invariant-loop-switch
invariant-loop-switch l = l.wires.items ≡ flat_map (wires_from (parallel l.count (layout_of l.form))) (range_with_len 0 l.switch)
