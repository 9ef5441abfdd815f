use Rattle.{c104_audit.specs.AuditedRuns.{IsWholeNode, node_shape}, c104_run.proofs.RoundLists.map_one_more, std.proofs.Common.arith}
use Rattle.std.proofs.{Common.subst, lemmas.List.Elements.All-more}

pub loop-node-preserved : Rattle.c104_workers.proofs.auditing.shapes_of.Goals.loop-node-preserved
loop-node-preserved c = record {
  shapes = map_one_more node_shape c.args.nodes.now c.loop-node.node-index c.node-item.result c.in_ok-shape_of.field-0 c.loop-node.list.items c.push.new.self.items (omega arith) c.node-item.is c.in_ok-shape_of.ensures.shape c.loop-node.invariant.shapes c.in_ok-push.ensures.items;
  whole = All-more IsWholeNode c.args.nodes.now c.loop-node.node-index c.node-item.result (omega arith) c.loop-node.invariant.whole (subst IsWholeNode c.node-item.is c.in_ok-shape_of.ensures.whole);
}
