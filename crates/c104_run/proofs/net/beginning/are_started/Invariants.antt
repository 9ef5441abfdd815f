use Rattle.{c104_node.specs.{Records.node_start, Starts.IsStartedStart, declared.starts.NodeStart.NodeStart}, std.proofs.Common.get_or}
use Rattle.std.proofs.Common.{map, ℕ, ◌<◌}

-- the nodes so far were started
abbrev pub invariant-loop-node : Rattle.c104_run.proofs.net.beginning.are_started.Given.invariant-loop-node
invariant-loop-node l = (k : ℕ) (d : NodeStart) → k < l.node-index → IsStartedStart (get_or (map node_start l.nodes) k d)
