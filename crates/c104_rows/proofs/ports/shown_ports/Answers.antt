use Rattle.{c104_plan.proofs.RangeLists.flat_next, c104_rows.specs.Ports.switch_ports, std.proofs.Common.[]}

pub loop-switch-preserved : Rattle.c104_rows.proofs.ports.shown_ports.Goals.loop-switch-preserved
loop-switch-preserved c =
    flat_next (switch_ports c.args.plan.now c.args.timeline.now c.args.last) c.loop-switch.switch [] c.loop-switch.ports.items _
    c.loop-switch.invariant c.in_ok-add_switch.ensures
