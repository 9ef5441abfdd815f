use Rattle.std.{proofs.Common.{reverse, ◌++◌, ◌+◌, ◌<◌, ◌≡◌}, specs.{Prelude.vec_len, Vec.vec_capacity}}
use Rattle.c104_node.proofs.terminal.spare.move_back.Given as goal

-- what moved, the last first, comes after what is left to move
abbrev pub invariant-loop-thing : goal.invariant-loop-thing
invariant-loop-thing g l = record {
  items : l.from.items ++ reverse l.list.items ≡ l.initial.from.items;
  room : vec_len l.from + vec_len l.list < vec_capacity l.list;
}

abbrev pub decreases-loop-thing : goal.decreases-loop-thing
decreases-loop-thing g l = vec_len l.from
