use Rattle.{c104_run.{proofs.PartCounts.are_parts, specs.NetParts.parts_record}, std.proofs.Common.{ap, ◌∙◌}}
use Rattle.c104_run.proofs.net.nodes.Net.into_nodes.Goals as goal

pub new-requires : goal.new-requires
new-requires c =
    rw (c.into_parts-wires.ensures.plan, c.into_parts-wires.ensures.places, c.into_parts-wires.ensures.count)
    (are_parts c.self.inside.engine.plan c.self.inside.engine.places c.self.inside.engine.count c.self.invariant.0.kept c.into_parts-wires.ensures.knows)

pub returns : goal.returns
returns c = ap parts_record c.new.ensures ∙ rw (c.into_parts-wires.ensures.plan, c.into_parts-wires.ensures.places, c.into_parts-wires.ensures.count) c.self.view_is
