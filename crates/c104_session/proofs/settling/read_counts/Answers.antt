use Rattle.{c104_node.{proofs.EachSoFar.each_next, specs.TracedRecords.{IsFit, TracedRecord}}, std.proofs.Common.{All, arith}}
use Rattle.c104_session.proofs.settling.read_counts.Goals as goal

pub loop-node-preserved : goal.loop-node-preserved
loop-node-preserved c =
    each_next (λ (n : TracedRecord). All IsFit n.trace) c.args.nodes.now c.loop-node.node-index c.node-item.result (omega arith)
    c.node-item.is c.arrived-arrived.ensures.fit c.loop-node.invariant

pub returns : goal.returns
returns c = λ k d inside. c.loop-node.invariant k d (omega (arith, inside))
