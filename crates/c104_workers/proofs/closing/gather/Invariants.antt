use Rattle.{c104_workers.{proofs.GatheredSeats.AreTaken, specs.Fabrics.AreSeatsOf}, std.proofs.Common.{length, ◌≡◌, ◌≤◌}}
use Rattle.std.specs.Vec.{vec_capacity}
use Rattle.c104_workers.proofs.closing.gather.Given as goal

-- the pass has the tracks of the seats that were taken in, from the last one on, and the list what they left
abbrev pub invariant-loop-seat : goal.invariant-loop-seat
invariant-loop-seat l = record {
  seats : AreSeatsOf l.word.word_id l.seats.items;
  word : l.pass.word_id ≡ l.word.word_id;
  room : l.word.terms.seats ≤ vec_capacity l.lists;
  taken : AreTaken l.initial.seats.items l.seats.items l.lists.items l.initial.pass.view.tracks l.pass.view.tracks;
}

abbrev pub decreases-loop-seat : goal.decreases-loop-seat
decreases-loop-seat l = length l.seats.items
