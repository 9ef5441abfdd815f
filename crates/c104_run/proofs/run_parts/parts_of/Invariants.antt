use Rattle.c104_node.specs.{Nodes.terminals_of, Records.{IsRecorded, NodeRecord, NodeRoom, node_start, node_state, node_trace}}
use Rattle.std.{proofs.Common.{All, length, map, reverse, ◌++◌, ◌+◌, ◌≡◌, ◌≤◌}, specs.Vec.vec_capacity}
use Rattle.c104_run.proofs.run_parts.parts_of.Given as goal

-- what was left so far, the last first, comes after what is left of the other nodes
abbrev pub invariant-loop-node : goal.invariant-loop-node
invariant-loop-node l = record {
  starts : map node_start l.list.items ++ reverse l.starts.items ≡ map node_start l.initial.list.items;
  traces : map node_trace l.list.items ++ reverse l.traces.items ≡ map node_trace l.initial.list.items;
  terminals : terminals_of (map node_state l.list.items) ++ reverse l.terminals.items ≡ terminals_of (map node_state l.initial.list.items);
  start_room : length l.list.items + length l.starts.items ≤ vec_capacity l.starts;
  trace_room : length l.list.items + length l.traces.items ≤ vec_capacity l.traces;
  recorded : All (λ (n : NodeRecord × NodeRoom). IsRecorded n.0) l.list.items → All (λ (n : NodeRecord × NodeRoom). IsRecorded n.0) l.initial.list.items;
  terminal_room : length (terminals_of (map node_state l.list.items)) + length l.terminals.items ≤ vec_capacity l.terminals;
}

abbrev pub decreases-loop-node : goal.decreases-loop-node
decreases-loop-node l = length l.list.items
