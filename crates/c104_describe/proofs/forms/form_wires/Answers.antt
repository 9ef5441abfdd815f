use Rattle.{c104_describe.specs.ShapeLayouts.{layout_of, parallel}, c104_plan.{proofs.RangeLists.flat_next, specs.Layouts.wires_from}}
use Rattle.std.proofs.Common.{[]}

pub loop-switch-preserved : Rattle.c104_describe.proofs.forms.form_wires.Goals.loop-switch-preserved
loop-switch-preserved c = flat_next (wires_from (parallel c.args.count (layout_of c.args.form))) c.loop-switch.switch [] c.loop-switch.wires.items _ c.loop-switch.invariant c.in_ok-add_wires_from.ensures
