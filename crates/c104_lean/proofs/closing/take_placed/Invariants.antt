use Rattle.{c104_lean.specs.Closing.PlaceTracks, std.{proofs.Common.{length, ◌+◌, ◌≡◌, ◌≤◌}, specs.Vec.vec_capacity}}
use Rattle.c104_lean.proofs.closing.take_placed.Given as goal

-- the pass has the tracks of the nodes that were taken out, from the last one on
abbrev pub invariant-loop-lock : goal.invariant-loop-lock
invariant-loop-lock g l = record {
  word : l.pass.word_id ≡ l.initial.pass.word_id;
  counted : length l.locks.items + length l.room.items ≡ length l.initial.locks.items;
  room : length l.locks.items + length l.room.items ≤ vec_capacity l.room;
  taken : PlaceTracks g.N.Sharing.before l.room.items l.initial.pass.view.tracks l.pass.view.tracks;
}

abbrev pub decreases-loop-lock : goal.decreases-loop-lock
decreases-loop-lock g l = length l.locks.items
