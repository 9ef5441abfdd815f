use Rattle.{c104_describe.specs.ShapeLayouts.{layout_of, parallel}, c104_plan.{proofs.RangeLists.flat_next, specs.Layouts.wire_at}}
use Rattle.std.proofs.Common.{ap, ◌++◌, ◌∙◌}

pub loop-link-preserved : Rattle.c104_describe.proofs.forms.add_wires_from.Goals.loop-link-preserved
loop-link-preserved c =
    flat_next (wire_at (parallel c.args.count (layout_of c.args.form)) c.args.switch) c.loop-link.link c.args.wires.now.items c.loop-link.wires.items _ c.loop-link.invariant
    (c.in_ok-add_wire.ensures ∙ ap (λ ws. c.loop-link.wires.items ++ ws) c.wire_end.ensures)
