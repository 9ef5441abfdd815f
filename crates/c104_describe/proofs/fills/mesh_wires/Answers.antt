use Rattle.{c104_describe.proofs.FilledSteps.mesh_next, c104_plan.{proofs.RangeLists.flat_next, specs.Layouts.{mesh, wires_from}}}
use Rattle.std.proofs.Common.{[]}

pub loop-switch-preserved : Rattle.c104_describe.proofs.fills.mesh_wires.Goals.loop-switch-preserved
loop-switch-preserved c =
    flat_next (wires_from (mesh c.args.width c.args.height)) c.loop-switch.switch [] c.loop-switch.wires.items _ c.loop-switch.invariant
    (mesh_next c.args.width c.args.height c.loop-switch.switch _ _ _ _ _ c.in_ok-add_wire.ensures c.in_ok-add_wire-2.ensures (c.port_after.ensures.end c.args.height) c.port_below.ensures.end)
