use Rattle.{c104_tickets.specs.Tickets.place_tracks, std.{proofs.Common.{drop, length, reverse, ◌+◌, ◌≡◌, ◌≤◌}, specs.Vec.vec_capacity}}
use Rattle.c104_lean.proofs.making.lock_all.Given as goal

-- each node is in one of the lists; those that are left are the network's from this place on, the last first, and the pass
-- has their tracks
abbrev pub invariant-loop-node : goal.invariant-loop-node
invariant-loop-node g l = record {
  counted : length l.nodes.items + length l.locks.items ≡ length l.initial.nodes.items;
  room : length l.nodes.items + length l.locks.items ≤ vec_capacity l.locks;
  nodes_room : vec_capacity l.nodes ≡ vec_capacity l.initial.nodes;
  pass : l.pass.word_id ≡ l.initial.pass.word_id;
  tracks : l.pass.view.tracks ≡ place_tracks (length l.locks.items) (length l.nodes.items);
  stood : reverse l.nodes.items ≡ drop (length l.locks.items) g.N.Sharing.before.places;
}

abbrev pub decreases-loop-node : goal.decreases-loop-node
decreases-loop-node g l = length l.nodes.items
