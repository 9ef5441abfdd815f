-- Seats that are the same but for their calls.
use Rattle.{c104_turns.specs.Calls.{IsSameSeat, SeatView}, std.proofs.Common.{refl, ◌∙◌}}

-- a seat is the same as itself, and as one that is the same as that
pub same_self : (s : SeatView) → IsSameSeat s s
same_self s = record { word_id = refl; terms = refl; number = refl; lent = refl }

pub same_on : (s t u : SeatView) → IsSameSeat s t → IsSameSeat t u → IsSameSeat s u
same_on s t u first second = record {
  word_id = second.word_id ∙ first.word_id;
  terms = second.terms ∙ first.terms;
  number = second.number ∙ first.number;
  lent = second.lent ∙ first.lent;
}
