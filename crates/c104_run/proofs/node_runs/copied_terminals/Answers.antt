use Rattle.{c104_run.proofs.NodeRuns.terminals_next, std.proofs.Common.arith}

pub loop-node-preserved : Rattle.c104_run.proofs.node_runs.copied_terminals.Goals.loop-node-preserved
loop-node-preserved c = terminals_next c.args.nodes.now c.loop-node.node-index c.node-item.result c.loop-node.list.items c.add_terminal.new.list.items (omega arith) c.node-item.is c.loop-node.invariant c.in_ok-add_terminal.ensures
