use Rattle.{c104_node.specs.Records.node_start, c104_run.proofs.RoundLists.map_one_more, std.proofs.Common.{arith, ◌∙◌}}

pub loop-node-preserved : Rattle.c104_run.proofs.node_runs.copied_starts.Goals.loop-node-preserved
loop-node-preserved c = map_one_more node_start c.args.nodes.now c.loop-node.node-index c.node-item.result c.in_ok-start.start c.loop-node.list.items c.push.new.self.items (omega arith) c.node-item.is (c.in_ok-start.ensures ∙ c.start.ensures) c.loop-node.invariant c.in_ok-push.ensures.items
