-- What workers do through ports of a shared network, by what each of their events and parts did.
use Rattle.{c104_event.specs.declared.{events.Event.Event, faults.EventFault.EventFault}, c104_lean.proofs.SeatWork.called_on}
use Rattle.c104_lean.{proofs.SeatWork.{none_called, repeated}, specs.{Ports.{DidEvent, DidPart, HasDone}, Working.{HasWorked, IsOwnEvent}}}
use Rattle.{c104_lean.specs.Working.{IsPartEvent, IsStop}, c104_plan.specs.Plans.Plan, c104_run.specs.Network.event_fault}
use Rattle.c104_turns.{proofs.TurnSteps.part_keeps, specs.{Calls.SeatView, SeatGrowth.FaultsAs, Turns.{After, End, InTurn, PartDone}}}
use Rattle.c104_turns.specs.{Turns.{TurnsDone, handed}, Working.PartView, declared.{parts.Stage.Stage, turns.Worker.Worker}}
use Rattle.std.proofs.Common.{All, Bool, Bor, Err, IfErr, List, Ok, Result, [], arith, if◌then◌else◌, inl, inr, length, map, nat_eq, refl}
use Rattle.std.proofs.{Common.{subst, suc, sym, zero, ℕ, ◌∙◌, ◌∷◌, ◌≡◌}, lemmas.List.Elements.All-map}

-- of any end nothing has to be known
nothing_known : {X : Type 0} (a : Result X EventFault) → IfErr a (λ f. Unit {0})
nothing_known (Ok x) = tt
nothing_known (Err f) = tt

-- the part of a locked node
module _ {P G : Type 0} (name : P → G) (seat_of : P → SeatView) (plan : Plan) (w : Worker) where
  abbrev Did : P → Event → Result Bool EventFault → P → Type 0
  Did p e a q = (name q ≡ name p) × DidEvent plan (seat_of p) e a (seat_of q)

  abbrev done : P → ℕ
  done p = length (seat_of p).calls

  module _ (lists : P → PartView → Stage → List ℕ → Type 0) (part : PartView) (old : P) (end : End) (new : P)
      (did : PartDone Did done w lists part old end new) where
    abbrev IsSame : P → P → Type 0
    IsSame p q = (name q ≡ name p) × ((seat_of q).word_id ≡ (seat_of p).word_id)

    pub part_same : IsSame old new
    part_same =
        (part_keeps IsSame (λ p. (refl, refl)) (λ p q r first second. (second.0 ∙ first.0, second.1 ∙ first.1)) (λ f. Unit {0}) Did done w
        (λ e. Unit {0}) (λ e p a q so one. ((one.0, one.1.0.same.word_id), nothing_known a)) tt lists part (λ k d inside. tt)
        old end new did).0

    module _ (n : ℕ) where
      event_done : (e : Event) (p : P) (a : Result Bool EventFault) (q : P) → IsPartEvent plan n w.number e
          → Did p (handed w (done p) e) a q
          → HasWorked plan w.words n w.number (seat_of p) (seat_of q) × IfErr a (IsStop plan w.words n w.number)
      event_done e p a q is one = (
        repeated plan w.words n w.number (handed w (done p) e) own (seat_of p) (seat_of q) one.1.0,
        stops a one.1.1,
      )
        where
          own : IsOwnEvent plan w.words n w.number (handed w (done p) e)
          own = record { event = e; part = is; done = done p; is = refl }

          stops : (b : Result Bool EventFault)
              → IfErr b (λ f. FaultsAs (event_fault plan (handed w (done p) e)) (handed w (done p) e) (Err f))
              → IfErr b (IsStop plan w.words n w.number)
          stops (Ok again) none = tt
          stops (Err f) faults = inr (handed w (done p) e, own, faults)

      pub part_done : DidPart plan w n part (seat_of old) end (seat_of new)
      part_done own =
          part_keeps (λ p q. HasWorked plan w.words n w.number (seat_of p) (seat_of q))
          (λ p. none_called (IsOwnEvent plan w.words n w.number) (seat_of p))
          (λ p q r first second.
          called_on (IsOwnEvent plan w.words n w.number) (seat_of p) (seat_of q) (seat_of r) first second)
          (IsStop plan w.words n w.number) Did done w (IsPartEvent plan n w.number) event_done (inl refl) lists part own old end new did

-- what is so at the start and after each part, if it ended well, is so after all turns
module _ {P : Type 0} (R : P → End → Type 0) (Q : PartView → Type 0) (due : P → PartView → End → P → Type 0)
    (each : (part : PartView) (p : P) (a : End) (q : P) → Q part → R p (Ok tt) → due p part a q → R q a) where
  stays : (p q : P) (a b : End) → b ≡ a → q ≡ p → R p a → R q b
  stays p q a b is here so = subst (R q) (sym is) (subst (λ r. R r a) (sym here) so)

  turn_so : (parts : List PartView) → All Q parts → (old : P) (end : End) (new : P) → R old (Ok tt)
      → InTurn (λ part p a q. due p part a q) parts old end new → R new end
  turn_so [] own old end new so (is, here) = stays old new (Ok tt) end is here so
  turn_so (x ∷ xs) own old end new so (Ok done, mid, did, rest) =
      turn_so xs (λ k d inside. own (suc k) d (omega (arith, inside))) mid end new (each x old (Ok tt) mid (own 0 x (omega arith)) so did) rest
  turn_so (x ∷ xs) own old end new so (Err f, mid, did, (is, here)) =
      stays mid new (Err f) end is here (each x old (Err f) mid (own 0 x (omega arith)) so did)

  module _ (done : P → ℕ) (parts : List PartView) (own : All Q parts) (most : ℕ) where
    turns_so : (n left : ℕ) (old : P) (end : End) (new : P) → R old (Ok tt) → TurnsDone due done parts most n left old end new → R new end
    turns_so zero left old end new so (is, here) = stays old new (Ok tt) end is here so
    turns_so (suc n) zero old end new so (is, here) = stays old new (Ok tt) end is here so
    turns_so (suc n) (suc left) old end new so (first, mid, did, rest) =
        by_end (λ again now more. turns_so n again mid end new now more) first (turn_so parts own old first mid so did) rest
      where
        by_end : ((again : ℕ) → R mid (Ok tt) → TurnsDone due done parts most n again mid end new → R new end) → (one : End) → R mid one
            → After one mid end new (TurnsDone due done parts most n (if nat_eq (done mid) (done old) then left else most) mid end new)
            → R new end
        by_end go_on (Ok all) now more = go_on (if nat_eq (done mid) (done old) then left else most) now more
        by_end go_on (Err f) now (is, here) = stays mid new (Err f) end is here now

-- all turns of a worker of n
module _ {P G : Type 0} (name : P → G) (worker : P → Worker) (seat_of : P → SeatView) (plan : Plan) where
  abbrev DidSo : P → PartView → End → P → Type 0
  DidSo p part a q =
      (name q ≡ name p) × (worker q ≡ worker p) × ((n : ℕ) → DidPart plan (worker p) n part (seat_of p) a (seat_of q))

  module _ (n : ℕ) (start : P) where
    abbrev IsOwnPart : PartView → Type 0
    IsOwnPart part = All (IsPartEvent plan n (worker start).number) part.events

    abbrev So : P → End → Type 0
    So q a =
        (name q ≡ name start) × (worker q ≡ worker start) × HasDone plan (worker start) n (seat_of start) a (seat_of q)

    on : (part : PartView) (p : P) (a : End) (q : P) → IsOwnPart part → So p (Ok tt) → DidSo p part a q → So q a
    on part p a q own so did =
        let more = subst (λ (w : Worker). DidPart plan w n part (seat_of p) a (seat_of q)) so.1 (did.2 n) own in (
          did.0 ∙ so.0,
          did.1 ∙ so.1,
          (
            called_on (IsOwnEvent plan (worker start).words n (worker start).number) (seat_of start) (seat_of p) (seat_of q) so.2.0 more.0,
            more.1,
          ),
        )

    pub turns_done : (parts : List PartView) → All IsOwnPart parts → (most turns left : ℕ) (end : End) (new : P)
        → TurnsDone DidSo (λ p. length (seat_of p).calls) parts most turns left start end new → So new end
    turns_done parts own most turns left end new did =
        turns_so So IsOwnPart DidSo on (λ p. length (seat_of p).calls) parts own most turns left start end new
        (refl, refl, (none_called (IsOwnEvent plan (worker start).words n (worker start).number) (seat_of start), tt)) did

-- the events of some parts are a worker's, by a plan that is the same
pub own_events : (plan there : Plan) (n i : ℕ) (parts items : List (Bor PartView)) → there ≡ plan → parts ≡ items
    → All (λ (part : Bor PartView). All (IsPartEvent plan n i) part.now.events) items
    → All (λ (part : PartView). All (IsPartEvent there n i) part.events) (map (λ (part : Bor PartView). part.now) parts)
own_events plan there n i parts items is listed own =
    All-map (λ (part : PartView). All (IsPartEvent there n i) part.events) (λ (part : Bor PartView). part.now) parts
    (subst (λ (p : Plan). All (λ (part : Bor PartView). All (IsPartEvent p n i) part.now.events) parts) (sym is)
    (subst (All (λ (part : Bor PartView). All (IsPartEvent plan n i) part.now.events)) (sym listed) own))
