use Rattle.{c104_lean.{proofs.TakenSeats.AreTaken, specs.Seats.AreSeatsOf}, std.proofs.Common.{length, ◌≡◌}}
use Rattle.c104_lean.proofs.closing.gather.Given as goal

-- the pass has the tracks of the seats that gave theirs, from the last one on
abbrev pub invariant-loop-seat : goal.invariant-loop-seat
invariant-loop-seat l = record {
  seats : AreSeatsOf l.log.word_id l.seats.items;
  word : l.pass.word_id ≡ l.log.word_id;
  taken : AreTaken l.initial.seats.items l.seats.items l.initial.pass.view.tracks l.pass.view.tracks l.log.terms.first l.next;
}

abbrev pub decreases-loop-seat : goal.decreases-loop-seat
decreases-loop-seat l = length l.seats.items
