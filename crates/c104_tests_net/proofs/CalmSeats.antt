-- What workers do through seats: their calls are of events that rounds have, which change no network.
use Rattle.{c104_event.specs.declared.{calls.Call.Call, events.Event.Event}, c104_net.specs.RoundEvents.IsOfRound}
use Rattle.{c104_plan.specs.Plans.Plan, c104_run.specs.{EventPlaces.event_place, NodeParts.round_part, Rounds.round}}
use Rattle.c104_tests_net.{proofs.CalmSteps.round_of, specs.CalmFabrics.{HasDoneRounds, HaveDoneRounds, IsLeftByWorkers, IsRoundCall}}
use Rattle.{c104_tickets.specs.{Tickets.TableId, declared.views.Terms.Terms}, c104_turns.specs.{Calls.SeatView, FirstSeats.first_seat}}
use Rattle.c104_turns.specs.{FirstSeats.first_seats, Words.with_word, Working.{HasWorked, IsOwnEvent, IsPartEvent}}
use Rattle.{c104_turns.specs.declared.words.Words.Words, c104_workers.specs.Fabrics.{Handed, Left, calls_of, seat_view}}
use Rattle.{c104_workers.specs.declared.calls.SeatCalls.SeatCalls, std.proofs.Common.{All, List, [], ap, arith, drop, false, get_or}}
use Rattle.std.proofs.Common.{length, map, nat_eq, refl, slice_index_or, subst, sym, take, ℕ, ◌++◌, ◌<◌, ◌∙◌, ◌≡◌}
use Rattle.std.proofs.{Math.Seq.take-append_seam, lemmas.List.Elements.{All-append, All-contains, All-filter, All-from_recursion, All-nil}}
use Rattle.std.proofs.lemmas.List.{Elements.All-weaker, FromFn.{get_or-map-range_with_len, length-map-range_with_len}, append-nil}
use Rattle.std.proofs.lemmas.List.{append_assoc, get_or-map, length-map}

-- an event of a round with another word
with_of : (w : ℕ) (e : Event) → IsOfRound e → IsOfRound (with_word w e)
with_of w (Event.Cross p) of = of
with_of w (Event.Credit p) of = of
with_of w (Event.Input s l word) of = of
with_of w (Event.Claim s i o) of = of
with_of w (Event.Control s bytes) of = of
with_of w (Event.Send t p) of = of
with_of w (Event.Drain t) of = of

module _ (plan : Plan) (words : Words) (n i : ℕ) where
  part_of : (e : Event) → IsPartEvent plan n i e → IsOfRound e
  part_of e part =
      All-contains IsOfRound (round_part plan part.node) e
      (All-filter (λ x. nat_eq (event_place plan x) part.node) IsOfRound (round plan)
      (All-from_recursion IsOfRound (round plan) (round_of plan)))
      part.part

  own_of : (c : Call) → IsOwnEvent plan words n i c.event → IsRoundCall c
  own_of c own = subst IsOfRound (sym own.is) (with_of _ own.event (part_of own.event own.part))

  worked_rounds : (old new : SeatView) → HasWorked plan words n i old new → HasDoneRounds old new
  worked_rounds old new worked = record {
    same = worked.same;
    more = worked.more;
    listed = worked.listed;
    own = All-weaker (λ c. IsOwnEvent plan words n i c.event) IsRoundCall own_of worked.more worked.own;
  }

-- nothing was done
none_done : (s : SeatView) → HasDoneRounds s s
none_done s = record {
  same = record { word_id = refl; terms = refl; number = refl; lent = refl };
  more = [];
  listed = sym (append-nil s.calls);
  own = All-nil IsRoundCall;
}

-- first this, and then that
done_on : (s t u : SeatView) → HasDoneRounds s t → HasDoneRounds t u → HasDoneRounds s u
done_on s t u first second = record {
  same = record {
    word_id = second.same.word_id ∙ first.same.word_id;
    terms = second.same.terms ∙ first.same.terms;
    number = second.same.number ∙ first.same.number;
    lent = second.same.lent ∙ first.same.lent;
  };
  more = first.more ++ second.more;
  listed = second.listed ∙ ap (λ calls. calls ++ second.more) first.listed ∙ append_assoc s.calls first.more second.more;
  own = All-append IsRoundCall first.more second.more first.own second.own;
}

-- the same of all seats
pub nothing_done : (seats : List (SeatView × ℕ)) → HaveDoneRounds seats seats
nothing_done seats = (refl, λ i d inside. none_done (slice_index_or seats i d).0)

pub all_done : (plan : Plan) (words : Words) (old now new : List (SeatView × ℕ)) → HaveDoneRounds old now → length new ≡ length now
    → ((i : ℕ) (d : SeatView × ℕ) → i < length now
    → HasWorked plan words (length now) i (slice_index_or now i d).0 (slice_index_or new i d).0)
    → HaveDoneRounds old new
all_done plan words old now new first same second = (
  same ∙ first.0,
  λ i d inside. done_on (slice_index_or old i d).0 (slice_index_or now i d).0 (slice_index_or new i d).0 (first.1 i d inside)
      (worked_rounds plan words (length now) i (slice_index_or now i d).0 (slice_index_or new i d).0
      (second i d (omega (arith, inside, first.0)))),
)

-- what was left of seats stands in the list of these
pub written_back : (n : ℕ) (seats before : List (SeatView × ℕ)) → length seats ≡ n → take n (seats ++ drop (length seats) before) ≡ seats
written_back n seats before is =
    subst (λ k. take k (seats ++ drop (length seats) before) ≡ seats) is (take-append_seam seats (drop (length seats) before))

-- a seat that was new has its number and such calls alone, all on the fabric's own nodes
record IsDoneSeat (i : ℕ) (seat : SeatCalls) : Type 0 where
  number : seat.number ≡ i
  lent : seat.lent ≡ false
  own : All IsRoundCall seat.calls

module _ (word_id : TableId) (terms : Terms) (old : List (SeatView × ℕ)) (are : map seat_view old ≡ first_seats word_id terms) where
  pub first_count : length old ≡ terms.seats
  first_count =
      sym (length-map old seat_view) ∙ ap (λ xs. length xs) are ∙ length-map-range_with_len (first_seat word_id terms) 0 terms.seats

  first_at : (i : ℕ) (d : SeatView × ℕ) → i < terms.seats → (slice_index_or old i d).0 ≡ first_seat word_id terms i
  first_at i d inside =
      sym (get_or-map seat_view old i d (seat_view d) (omega (arith, inside, first_count)))
      ∙ ap (λ (seats : List SeatView). get_or seats i (seat_view d)) are
      ∙ get_or-map-range_with_len (first_seat word_id terms) 0 terms.seats i i (seat_view d) inside (omega arith)

  module _ (new : List (SeatView × ℕ)) (done : HaveDoneRounds old new) where
    done_at : (i : ℕ) (d : SeatView × ℕ) → i < terms.seats → IsDoneSeat i (calls_of (slice_index_or new i d))
    done_at i d inside =
        let has : HasDoneRounds (slice_index_or old i d).0 (slice_index_or new i d).0 = done.1 i d (omega (arith, inside, first_count)) in
        let was : (slice_index_or old i d).0 ≡ first_seat word_id terms i = first_at i d inside in
        record {
          number = has.same.number ∙ ap (λ (s : SeatView). s.number) was;
          lent = has.same.lent ∙ ap (λ (s : SeatView). s.lent) was;
          own = subst (All IsRoundCall) (sym (has.listed ∙ ap (λ (s : SeatView). s.calls ++ has.more) was)) has.own;
        }

    left_at : (left : List SeatCalls) → left ≡ map calls_of new → (i : ℕ) (d : SeatCalls) → i < terms.seats
        → IsDoneSeat i (slice_index_or left i d)
    left_at left is i d inside =
        let none : SeatView × ℕ = (first_seat word_id terms i, 0) in
        subst (λ (seats : List SeatCalls). IsDoneSeat i (slice_index_or seats i d)) (sym is)
        (subst (IsDoneSeat i) (sym (get_or-map calls_of new i none d (omega (arith, inside, done.0, first_count)))) (done_at i none inside))

    -- what a fabric leaves whose workers did so
    pub left_by_workers : (handed : Handed) (left : Left) → left.handed ≡ handed → left.seats ≡ map calls_of new
        → left.seat_count ≡ terms.seats → IsLeftByWorkers handed left
    left_by_workers handed left same seats count =
        let counted : length left.seats ≡ terms.seats = ap (λ xs. length xs) seats ∙ length-map new calls_of ∙ done.0 ∙ first_count in
        record {
          handed_so = same;
          whole = record {
            count = counted ∙ sym count;
            numbers = λ i d inside. (left_at left.seats seats i d (omega (arith, inside, count))).number;
            own = λ i d inside. (left_at left.seats seats i d (omega (arith, inside, count))).lent;
          };
          calls = λ i d inside. (left_at left.seats seats i d (omega (arith, inside, counted))).own;
        }
