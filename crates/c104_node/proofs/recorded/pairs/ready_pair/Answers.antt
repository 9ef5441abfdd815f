use Rattle.{c104_node.proofs.NodePairs.{pair_closed, pair_open}, std.proofs.Common.sym}
use Rattle.c104_node.proofs.recorded.pairs.ready_pair.Goals as goal

pub returns-then-not-gives : goal.returns-then-not-gives
returns-then-not-gives c = sym (pair_closed c.args.joint c.args.near.now.0 c.args.far.now.0 (sym c.if-not-gives.ensures))

pub returns : goal.returns
returns c = pair_open c.args.joint c.args.near.now.0 c.args.far.now.0 c.takes.result (sym c.if-not-gives.ensures) c.takes.ensures
