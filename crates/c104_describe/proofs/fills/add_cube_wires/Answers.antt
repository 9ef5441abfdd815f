use Rattle.{c104_plan.{proofs.RangeLists.flat_next, specs.Layouts.{cube, wire_at}}, std.proofs.Common.{ap, ◌++◌, ◌∙◌}}

pub loop-link-preserved : Rattle.c104_describe.proofs.fills.add_cube_wires.Goals.loop-link-preserved
loop-link-preserved c =
    flat_next (wire_at (cube c.args.dimensions) c.args.switch) c.loop-link.link c.args.wires.now.items c.loop-link.wires.items _ c.loop-link.invariant
    (c.in_ok-add_wire.ensures ∙ ap (λ ws. c.loop-link.wires.items ++ ws) (c.port_beyond.ensures c.args.dimensions))
