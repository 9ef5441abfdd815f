-- What workers do to their seats: event by event, each of a node of their own.
use Rattle.c104_event.specs.{Calls.call_of, declared.{calls.Call.Call, events.Event.Event, faults.EventFault.EventFault}}
use Rattle.c104_lean.specs.{Seats.{AreSeatsOf, Grows, HasCall}, Shared.ArePartsOf, Working.{HasCalls, HasWorked, IsOwnEvent, IsPartEvent}}
use Rattle.{c104_lean.specs.Working.worker_of, c104_plan.specs.Plans.Plan, c104_run.specs.NodeParts.round_part}
use Rattle.{c104_switch.specs.Actions.{Reply, is_ready}, c104_tickets.specs.Tickets.TableId, c104_turns.proofs.SameSeats.same_on}
use Rattle.c104_turns.{proofs.SameSeats.same_self, specs.{Calls.{IfDone, SeatView}, Working.{IsPartOf, PartView}}}
use Rattle.{c104_turns.specs.declared.words.Words.Words, std.proofs.Common.{All, Bool, Bor, Err, List, Ok, Result, [], ap, arith, false}}
use Rattle.std.proofs.Common.{length, slice_index_or, subst, suc, sym, true, zero, ℕ, ◌++◌, ◌<◌, ◌∙◌, ◌∷◌, ◌≡◌}
use Rattle.std.proofs.lemmas.List.{Elements.{All-append, All-cons, All-contains_itself, All-nil, All-push, All-weaker}, append-nil}
use Rattle.std.proofs.lemmas.List.{append_assoc}

-- what holds of all seats holds of each, and the other way round
pub seat_at : (word_id : TableId) (seats : List SeatView) (i : ℕ) (d : SeatView) → AreSeatsOf word_id seats → i < length seats
    → (slice_index_or seats i d).word_id ≡ word_id
seat_at word_id [] i d are inside = absurd (omega (arith, inside))
seat_at word_id (s ∷ seats) zero d are inside = are.0
seat_at word_id (s ∷ seats) (suc i) d are inside = seat_at word_id seats i d are.1 (omega (arith, inside))

pub seats_all : (word_id : TableId) (seats : List SeatView)
    → ((i : ℕ) (d : SeatView) → i < length seats → (slice_index_or seats i d).word_id ≡ word_id) → AreSeatsOf word_id seats
seats_all word_id [] each = tt
seats_all word_id (s ∷ seats) each =
    (each 0 s (omega arith), seats_all word_id seats (λ i d inside. each (suc i) d (omega (arith, inside))))

module _ (P : Event → Type 0) where
  -- nothing was done
  pub none_called : (s : SeatView) → HasCalls P s s
  none_called s = record { same = same_self s; more = []; listed = sym (append-nil s.calls); own = All-nil (λ (c : Call). P c.event) }

  -- first this, and then that
  pub called_on : (s t u : SeatView) → HasCalls P s t → HasCalls P t u → HasCalls P s u
  called_on s t u first second = record {
    same = same_on s t u first.same second.same;
    more = first.more ++ second.more;
    listed = second.listed ∙ ap (λ calls. calls ++ second.more) first.listed ∙ append_assoc s.calls first.more second.more;
    own = All-append (λ (c : Call). P c.event) first.more second.more first.own second.own;
  }

  -- one event
  pub event_called : (s t : SeatView) (e : Event) (answer : Result Reply EventFault) → P e → Grows s t e answer → HasCalls P s t
  event_called s t e (Ok r) own grew = by_ready (is_ready r) grew
    where
      by_ready : (b : Bool) → IfDone b (HasCall s t e r) (t ≡ s) → HasCalls P s t
      by_ready true grew = record {
        same = record {
          word_id = ap (λ (x : SeatView). x.word_id) grew.listed;
          terms = ap (λ (x : SeatView). x.terms) grew.listed;
          number = ap (λ (x : SeatView). x.number) grew.listed;
          lent = ap (λ (x : SeatView). x.lent) grew.listed;
        };
        more = call_of e grew.ticket r ∷ [];
        listed = ap (λ (x : SeatView). x.calls) grew.listed;
        own = All-cons (λ (c : Call). P c.event) (call_of e grew.ticket r) [] own (All-nil (λ (c : Call). P c.event));
      }
      by_ready false is = subst (HasCalls P s) (sym is) (none_called s)
  event_called s t e (Err f) own same = subst (HasCalls P s) (sym same) (none_called s)

-- what is so of the events of some calls is also so in another way
pub calls_weaker : (P Q : Event → Type 0) → ((e : Event) → P e → Q e) → (s t : SeatView) → HasCalls P s t → HasCalls Q s t
calls_weaker P Q so s t called = record {
  same = called.same;
  more = called.more;
  listed = called.listed;
  own = All-weaker (λ (c : Call). P c.event) (λ (c : Call). Q c.event) (λ c is. so c.event is) called.more called.own;
}

-- calls of one event are a worker's, if the event is
pub repeated : (plan : Plan) (words : Words) (n i : ℕ) (e : Event) → IsOwnEvent plan words n i e → (s t : SeatView)
    → HasCalls (λ x. x ≡ e) s t → HasWorked plan words n i s t
repeated plan words n i e own s t called =
    calls_weaker (λ x. x ≡ e) (IsOwnEvent plan words n i) (λ x is. subst (IsOwnEvent plan words n i) (sym is) own) s t called

-- the part that a round has for a node is that of its own place
pub own_place : (plan : Plan) (k : ℕ) (part : PartView) → IsPartOf plan k part → IsPartOf plan part.node part
own_place plan k part is = subst (λ j. IsPartOf plan j part) (sym is.at) is

-- each of a plan's parts is one
pub part_at : (plan : Plan) (parts : List PartView) (k : ℕ) (part : PartView) → ArePartsOf plan parts → k < length parts
    → part ≡ slice_index_or parts k part → IsPartOf plan part.node part
part_at plan parts k part are inside is = subst (λ (q : PartView). IsPartOf plan q.node q) (sym is) (are k part inside)

-- the events of a node's part are those of its worker
pub own_part : (plan : Plan) (n i : ℕ) (part : PartView) → IsPartOf plan part.node part → worker_of plan n part.node ≡ i
    → All (IsPartEvent plan n i) part.events
own_part plan n i part is own =
    subst (All (IsPartEvent plan n i)) (sym is.events)
    (λ j d inside. record {
      node = part.node;
      own = own;
      part = All-contains_itself (round_part plan part.node) j d inside;
    })

-- and so are those of more such nodes, where a part's worker was asked for
pub own_more : (plan : Plan) (n i : ℕ) (parts : List (Bor PartView)) (part : Bor PartView) (node owner : ℕ)
    → All (λ (p : Bor PartView). All (IsPartEvent plan n i) p.now.events) parts → IsPartOf plan part.now.node part.now
    → node ≡ part.now.node → owner ≡ worker_of plan n node → owner ≡ i
    → All (λ (p : Bor PartView). All (IsPartEvent plan n i) p.now.events) (parts ++ part ∷ [])
own_more plan n i parts part node owner are is at told own =
    All-push (λ (p : Bor PartView). All (IsPartEvent plan n i) p.now.events) parts part are
    (own_part plan n i part.now is (ap (worker_of plan n) (sym at) ∙ sym told ∙ own))

-- the seat of a worker stays one of the network
pub seat_stays : (plan : Plan) (n i : ℕ) (words : Words) (word_id : TableId) (before argument left after : SeatView) → argument ≡ before
    → HasWorked plan words n i argument left → left ≡ after → before.word_id ≡ word_id → after.word_id ≡ word_id
seat_stays plan n i words word_id before argument left after begins worked ends own =
    subst (λ (s : SeatView). s.word_id ≡ word_id) ends
    (worked.same.word_id ∙ subst (λ (s : SeatView). s.word_id ≡ word_id) (sym begins) own)
