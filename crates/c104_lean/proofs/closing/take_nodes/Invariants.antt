use Rattle.{c104_lean.specs.Closing.node_of, std.{proofs.Common.{length, map, reverse, ◌++◌, ◌+◌, ◌≡◌, ◌≤◌}, specs.Vec.vec_capacity}}
use Rattle.c104_lean.proofs.closing.take_nodes.Given as goal

-- the nodes so far, the last first, stand behind those that are left
abbrev pub invariant-loop-node : goal.invariant-loop-node
invariant-loop-node g l = record {
  counted : length l.placed.items + length l.nodes.items ≡ length l.initial.placed.items;
  room : length l.placed.items + length l.nodes.items ≤ vec_capacity l.nodes;
  are : map node_of l.placed.items ++ reverse l.nodes.items ≡ map node_of l.initial.placed.items;
}

abbrev pub decreases-loop-node : goal.decreases-loop-node
decreases-loop-node g l = length l.placed.items
