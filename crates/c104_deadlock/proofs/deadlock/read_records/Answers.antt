use Rattle.{c104_node.{proofs.EachSoFar.each_next, specs.Records.{IsRecorded, NodeRecord, NodeRoom}}, std.proofs.Common.arith}
use Rattle.c104_deadlock.proofs.deadlock.read_records.Goals as goal

pub loop-node-preserved : goal.loop-node-preserved
loop-node-preserved c = each_next (λ (n : NodeRecord × NodeRoom). IsRecorded n.0) c.args.nodes.now c.loop-node.node-index c.node-item.result (omega arith) c.node-item.is c.trace-trace.ensures.recorded c.loop-node.invariant

pub returns : goal.returns
returns c = λ k d inside. c.loop-node.invariant k d (omega (arith, inside))
