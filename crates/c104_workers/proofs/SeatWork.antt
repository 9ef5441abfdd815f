-- What workers do to their seats: event by event, each of a node of their own.
use Rattle.c104_event.specs.{Calls.call_of, declared.{calls.Call.Call, events.Event.Event, faults.EventFault.EventFault}}
use Rattle.{c104_plan.specs.Plans.Plan, c104_run.specs.{Network.event_fault, NodeParts.round_part}, c104_switch.specs.Actions.Reply}
use Rattle.{c104_switch.specs.Actions.is_ready, c104_tickets.specs.Tickets.TableId, c104_turns.proofs.KeptTurns.{a_part, all_turns}}
use Rattle.c104_turns.{proofs.SameSeats.{same_on, same_self}, specs.{Calls.{IfDone, IsSameSeat, SeatView}, SeatGrowth.{FaultsAs, Grew}}}
use Rattle.c104_turns.specs.{SeatGrowth.GrewBy, Turns.{End, PartDone, TurnsDone, handed}, Working.{HasDone, HasWorked, IsOwnEvent}}
use Rattle.c104_turns.specs.{Working.{IsPartEvent, IsPartOf, IsStop, PartView}, declared.{parts.Stage.Stage, turns.Worker.Worker}}
use Rattle.{c104_turns.specs.declared.words.Words.Words, c104_workers.{proofs.SeatGrowth.same_seat, specs.Fabrics.{AreSeatsOf, IsSeatOf}}}
use Rattle.std.proofs.Common.{All, Bool, Contains, Err, IfErr, List, Ok, Result, [], ap, arith, false, inl, inr, length, refl}
use Rattle.std.proofs.Common.{slice_index_or, subst, suc, sym, true, zero, ℕ, ◌%◌, ◌++◌, ◌<◌, ◌∙◌, ◌∷◌, ◌≡◌}
use Rattle.std.proofs.lemmas.List.{Elements.{All-append, All-cons, All-contains_itself, All-nil, All-push}, append-nil, append_assoc}

-- what holds of all seats holds of each, and the other way round
pub seat_at : (word_id : TableId) (seats : List (SeatView × ℕ)) (i : ℕ) (d : SeatView × ℕ) → AreSeatsOf word_id seats → i < length seats → IsSeatOf word_id (slice_index_or seats i d)
seat_at word_id [] i d are inside = absurd (omega (arith, inside))
seat_at word_id (s ∷ seats) zero d are inside = are.0
seat_at word_id (s ∷ seats) (suc i) d are inside = seat_at word_id seats i d are.1 (omega (arith, inside))

pub seats_all : (word_id : TableId) (seats : List (SeatView × ℕ)) → ((i : ℕ) (d : SeatView × ℕ) → i < length seats → IsSeatOf word_id (slice_index_or seats i d)) → AreSeatsOf word_id seats
seats_all word_id [] each = tt
seats_all word_id (s ∷ seats) each = (each 0 s (omega arith), seats_all word_id seats (λ i d inside. each (suc i) d (omega (arith, inside))))

module _ (plan : Plan) (n i : ℕ) where
  own_event : (k : ℕ) → k % n ≡ i → (e : Event) → Contains (round_part plan k) e → IsPartEvent plan n i e
  own_event k own e part = record { node = k; own = own; part = part }

  -- the events of a worker's own node are such as it does
  own_part : (k : ℕ) (part : PartView) → IsPartOf plan k part → k % n ≡ i → All (IsPartEvent plan n i) part.events
  own_part k part is own =
      subst (All (IsPartEvent plan n i)) (sym is.events)
      (λ j d inside. own_event k own (slice_index_or (round_part plan k) j d) (All-contains_itself (round_part plan k) j d inside))

  -- and so are those of more such nodes
  pub own_parts : (k : ℕ) (parts : List PartView) (part : PartView) → All (λ (p : PartView). All (IsPartEvent plan n i) p.events) parts
      → IsPartOf plan k part → k % n ≡ i → All (λ (p : PartView). All (IsPartEvent plan n i) p.events) (parts ++ part ∷ [])
  own_parts k parts part are is own =
      All-push (λ (p : PartView). All (IsPartEvent plan n i) p.events) parts part are (own_part k part is own)

module _ (plan : Plan) (words : Words) (n i : ℕ) where
  -- nothing was done
  pub none_worked : (s : SeatView) → HasWorked plan words n i s s
  none_worked s = record { same = same_self s; more = []; listed = sym (append-nil s.calls); own = All-nil (λ (c : Call). IsOwnEvent plan words n i c.event) }

  -- first this, and then that
  pub worked_on : (s t u : SeatView) → HasWorked plan words n i s t → HasWorked plan words n i t u → HasWorked plan words n i s u
  worked_on s t u first second = record {
    same = same_on s t u first.same second.same;
    more = first.more ++ second.more;
    listed = second.listed ∙ ap (λ calls. calls ++ second.more) first.listed ∙ append_assoc s.calls first.more second.more;
    own = All-append (λ (c : Call). IsOwnEvent plan words n i c.event) first.more second.more first.own second.own;
  }

  -- one event
  pub event_worked : (s t : SeatView) (e : Event) (answer : Result Reply EventFault) → IsOwnEvent plan words n i e → Grew s t e answer → HasWorked plan words n i s t
  event_worked s t e (Ok r) own grew = by_ready (same_seat s t e (Ok r) grew) (is_ready r) grew
    where
      by_ready : IsSameSeat s t → (b : Bool) → IfDone b (GrewBy s t e r) (t ≡ s) → HasWorked plan words n i s t
      by_ready same true grew = record {
        same = same;
        more = call_of e grew.ticket r ∷ [];
        listed = ap (λ (x : SeatView). x.calls) grew.listed;
        own = All-cons (λ (c : Call). IsOwnEvent plan words n i c.event) (call_of e grew.ticket r) [] own (All-nil (λ (c : Call). IsOwnEvent plan words n i c.event));
      }
      by_ready same false is = subst (HasWorked plan words n i s) (sym is) (none_worked s)
  event_worked s t e (Err f) own same = subst (HasWorked plan words n i s) (sym same) (none_worked s)

  -- the seat of a worker stays one of the fabric
  pub seat_stays : (word_id : TableId) (before argument left after : SeatView × ℕ) → argument ≡ before → HasWorked plan words n i argument.0 left.0 → left ≡ after → IsSeatOf word_id before → IsSeatOf word_id after
  seat_stays word_id before argument left after begins worked ends own =
      subst (IsSeatOf word_id) ends (worked.same.word_id ∙ subst (IsSeatOf word_id) (sym begins) own)

-- A port to the nodes of a fabric through a seat, of a worker that stays the same
module _ {P G B : Type 0} (name : P → G) (own_of : P → B) (seat_of : P → SeatView)
    (plan_of : B → Plan) (worker_of : B → Worker) (count_of : B → ℕ) where
  abbrev Answers : P → Event → Result Bool EventFault → P → Type 0
  Answers p e a q = (name q ≡ name p) × (own_of q ≡ own_of p) × HasDone (plan_of (own_of p)) (seat_of p) (seat_of q) e a

  abbrev IsOwn : B → Event → Type 0
  IsOwn b = IsPartEvent (plan_of b) (count_of b) (worker_of b).number

  abbrev IsAsked : B → Event → Type 0
  IsAsked b = IsOwnEvent (plan_of b) (worker_of b).words (count_of b) (worker_of b).number

  abbrev IsOwnPart : B → PartView → Type 0
  IsOwnPart b part = All (IsOwn b) part.events

  abbrev Works : B → SeatView → SeatView → Type 0
  Works b = HasWorked (plan_of b) (worker_of b).words (count_of b) (worker_of b).number

  abbrev Stops : B → EventFault → Type 0
  Stops b = IsStop (plan_of b) (worker_of b).words (count_of b) (worker_of b).number

  abbrev PartAnswers : P → PartView → End → P → Type 0
  PartAnswers p part a q =
      IsOwnPart (own_of p) part
      → (name q ≡ name p) × (own_of q ≡ own_of p) × Works (own_of p) (seat_of p) (seat_of q) × IfErr a (Stops (own_of p))

  -- from a state of it on
  module _ (p : P) where
    abbrev Kept : P → Type 0
    Kept q = (name q ≡ name p) × (own_of q ≡ own_of p) × Works (own_of p) (seat_of p) (seat_of q)

    at_first : Kept p
    at_first = (
      refl,
      refl,
      none_worked (plan_of (own_of p)) (worker_of (own_of p)).words (count_of (own_of p)) (worker_of (own_of p)).number (seat_of p),
    )

    keeps_on : (q r : P) → Kept q → name r ≡ name q → own_of r ≡ own_of q → Works (own_of p) (seat_of q) (seat_of r) → Kept r
    keeps_on q r kept name_is own_is worked = (
      name_is ∙ kept.0,
      own_is ∙ kept.1,
      worked_on (plan_of (own_of p)) (worker_of (own_of p)).words (count_of (own_of p)) (worker_of (own_of p)).number
          (seat_of p) (seat_of q) (seat_of r) kept.2 worked,
    )

    module _ (e : Event) (own : IsAsked (own_of p) e) (q r : P) (kept : Kept q)
        (name_is : name r ≡ name q) (own_is : own_of r ≡ own_of q) where
      after : (answer : Result Reply EventFault) → Grew (seat_of q) (seat_of r) e answer → Kept r
      after answer grew =
          keeps_on q r kept name_is own_is
          (event_worked (plan_of (own_of p)) (worker_of (own_of p)).words (count_of (own_of p)) (worker_of (own_of p)).number
          (seat_of q) (seat_of r) e answer own grew)

      asked_done : (a : Result Bool EventFault) → HasDone (plan_of (own_of q)) (seat_of q) (seat_of r) e a
          → Kept r × IfErr a (Stops (own_of p))
      asked_done (Ok done) (reply, told, grew) = (after (Ok reply) grew, tt)
      asked_done (Err f) (same, fault) = (
        after (Err f) same,
        inr (e, own, subst (λ b. FaultsAs (event_fault (plan_of b) e) e (Err f)) kept.1 fault),
      )

    module _ (done : P → ℕ) where
      event_done : (e : Event) (q : P) (a : Result Bool EventFault) (r : P) → IsOwn (own_of p) e → Kept q
          → Answers q (handed (worker_of (own_of p)) (done q) e) a r → Kept r × IfErr a (Stops (own_of p))
      event_done e q a r own kept did =
          asked_done (handed (worker_of (own_of p)) (done q) e) (record { event = e; part = own; done = done q; is = refl })
          q r kept did.0 did.1 a did.2

      pub part_done : (lists : P → PartView → Stage → List ℕ → Type 0) (part : PartView) (end : End) (q : P) → IsOwnPart (own_of p) part
          → PartDone Answers done (worker_of (own_of p)) lists part p end q
          → (name q ≡ name p) × (own_of q ≡ own_of p) × Works (own_of p) (seat_of p) (seat_of q) × IfErr end (Stops (own_of p))
      part_done lists part end q own did =
          let so = a_part Kept (Stops (own_of p)) Answers done (worker_of (own_of p)) (IsOwn (own_of p)) event_done (inl refl)
          lists part own p end q at_first did in
          (so.0.0, so.0.1, so.0.2, so.1)

      a_part_done : (part : PartView) (q : P) (a : End) (r : P) → IsOwnPart (own_of p) part → Kept q → PartAnswers q part a r
          → Kept r × IfErr a (Stops (own_of p))
      a_part_done part q a r own kept did =
          let so = did (subst (λ b. IsOwnPart b part) (sym kept.1) own) in (
            keeps_on q r kept so.0 so.1 (subst (λ b. Works b (seat_of q) (seat_of r)) kept.1 so.2),
            subst (λ b. IfErr a (Stops b)) kept.1 so.3,
          )

      pub turns_done : (parts : List PartView) (most n left : ℕ) (end : End) (q : P) → All (IsOwnPart (own_of p)) parts
          → TurnsDone PartAnswers done parts most n left p end q → Kept q × IfErr end (Stops (own_of p))
      turns_done parts most n left end q own did =
          all_turns Kept (Stops (own_of p)) (IsOwnPart (own_of p)) PartAnswers done a_part_done parts own most n left p end q at_first did
