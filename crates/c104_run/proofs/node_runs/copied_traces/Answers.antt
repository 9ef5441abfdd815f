use Rattle.{c104_node.specs.Records.node_trace, c104_run.{proofs.RoundLists.map_one_more, specs.NodeRuns.IsKeptNode}}
use Rattle.std.proofs.{Common.{arith, subst, ◌∙◌}, lemmas.List.Elements.All-more}

pub loop-node-preserved : Rattle.c104_run.proofs.node_runs.copied_traces.Goals.loop-node-preserved
loop-node-preserved c = record {
  traces = map_one_more node_trace c.args.nodes.now c.loop-node.node-index c.node-item.result c.new.result c.loop-node.list.items c.push.new.self.items (omega arith) c.node-item.is (c.new.ensures ∙ c.in_ok-trace.ensures) c.loop-node.invariant.traces c.in_ok-push.ensures.items;
  kept = All-more IsKeptNode c.args.nodes.now c.loop-node.node-index c.node-item.result (omega arith) c.loop-node.invariant.kept (subst IsKeptNode c.node-item.is c.trace-trace.ensures.recorded);
}
