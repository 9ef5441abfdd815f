use Rattle.{c104_plan.{proofs.RangeLists.flat_next, specs.Layouts.{cube, wires_from}}, std.proofs.Common.[]}

pub loop-switch-preserved : Rattle.c104_describe.proofs.fills.cube_wires.Goals.loop-switch-preserved
loop-switch-preserved c = flat_next (wires_from (cube c.args.dimensions)) c.loop-switch.switch [] c.loop-switch.wires.items _ c.loop-switch.invariant c.in_ok-add_cube_wires.ensures
