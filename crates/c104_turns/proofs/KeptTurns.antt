-- What a worker's turns keep of a port's state that each event keeps which is done in such a state; and which faults end them.
use Rattle.{c104_event.specs.declared.{events.Event.Event, faults.EventFault.EventFault}, c104_turns.specs.Turns.{After, End, InTurn}}
use Rattle.c104_turns.specs.{Turns.{Often, PartDone, StageDone, TurnsDone, events_at, handed, with_some}, Working.PartView}
use Rattle.c104_turns.specs.declared.{parts.Stage.{Stage, TheVariants.{Claims, Crossings, Turns}}, turns.Worker.Worker}
use Rattle.std.proofs.Common.{All, Bool, Err, IfErr, List, None, Ok, Option, Result, Some, [], arith, false, get_or, if◌then◌else◌, inl}
use Rattle.std.proofs.{Common.{inr, nat_eq, refl, slice_get, subst, suc, sym, true, zero, ℕ, ◌∷◌, ◌≡◌}, lemmas.List.Elements.All-cons}
use Rattle.std.proofs.lemmas.{List.Elements.All-nil, Option.{get_or_from_slice_get, slice_get_within}}

-- those that are there of some events are such, if all are
module _ (Q : Event → Type 0) (events : List Event) (so : All Q events) where
  some_listed : (n : ℕ) (rest : List Event) → All Q rest → (o : Option Event) → slice_get events n ≡ o → All Q (with_some o rest)
  some_listed n rest others None is = others
  some_listed n rest others (Some e) is =
      All-cons Q e rest (subst Q (get_or_from_slice_get events n e e is) (so n e (slice_get_within events n e is))) others

  all_listed : (numbers : List ℕ) → All Q (events_at events numbers)
  all_listed [] = All-nil Q
  all_listed (n ∷ numbers) = some_listed n (events_at events numbers) (all_listed numbers) (slice_get events n) refl

module _ {P : Type 0} (Kept : P → Type 0) (S : EventFault → Type 0) where
  -- it came to such an end
  abbrev pub Ends : End → P → Type 0
  Ends end new = Kept new × IfErr end S

  at_once : (old new : P) (end : End) → Kept old → end ≡ Ok tt → new ≡ old → Ends end new
  at_once old new end kept is here = (subst Kept (sym here) kept, subst (λ (a : End). IfErr a S) (sym is) tt)

  stopped : (mid new : P) (end : End) (f : EventFault) → Kept mid → S f → end ≡ Err f → new ≡ mid → Ends end new
  stopped mid new end f kept so is here = (subst Kept (sym here) kept, subst (λ (a : End). IfErr a S) (sym is) so)

  in_turn : {X : Type 0} (Q : X → Type 0) (one : X → P → End → P → Type 0)
      → ((x : X) (p : P) (a : End) (q : P) → Q x → Kept p → one x p a q → Ends a q)
      → (xs : List X) → All Q xs → (old : P) (end : End) (new : P) → Kept old → InTurn one xs old end new → Ends end new
  in_turn Q one each [] so old end new kept (is, here) = at_once old new end kept is here
  in_turn {X} Q one each (x ∷ xs) so old end new kept (Ok done, mid, did, rest) =
      in_turn Q one each xs (λ k d inside. so (suc k) d (omega (arith, inside))) mid end new
      (each x old (Ok done) mid (so 0 x (omega arith)) kept did).0 rest
  in_turn {X} Q one each (x ∷ xs) so old end new kept (Err f, mid, did, (is, here)) =
      let first : Ends (Err f) mid = each x old (Err f) mid (so 0 x (omega arith)) kept did in
      stopped mid new end f first.0 first.1 is here

  module _ (due : P → Event → Result Bool EventFault → P → Type 0) (done : P → ℕ) (w : Worker) (Q : Event → Type 0)
      (each : (e : Event) (p : P) (a : Result Bool EventFault) (q : P) → Q e → Kept p → due p (handed w (done p) e) a q
      → Kept q × IfErr a S)
      (memory : S EventFault.NoMemory) where
    often : (e : Event) → Q e → (n : ℕ) (old : P) (end : End) (new : P) → Kept old → Often due done w n e old end new → Ends end new
    often e so zero old end new kept (is, here) = at_once old new end kept is here
    often e so (suc n) old end new kept (Ok true, mid, did, rest) =
        often e so n mid end new (each e old (Ok true) mid so kept did).0 rest
    often e so (suc n) old end new kept (Ok false, mid, did, (is, here)) =
        at_once mid new end (each e old (Ok false) mid so kept did).0 is here
    often e so (suc n) old end new kept (Err f, mid, did, (is, here)) =
        let first = each e old (Err f) mid so kept did in
        stopped mid new end f first.0 first.1 is here

    module _ (lists : P → PartView → Stage → List ℕ → Type 0) (part : PartView) (so : All Q part.events) where
      a_stage : (stage : Stage) (old : P) (end : End) (new : P) → Kept old → StageDone due done w lists part stage old end new
          → Ends end new
      a_stage stage old end new kept (inl (numbers, listed, did)) =
          in_turn Q (λ e. Often due done w w.times e) (λ e p a q own. often e own w.times p a q)
          (events_at part.events numbers) (all_listed Q part.events so numbers) old end new kept did
      a_stage stage old end new kept (inr (is, here)) = stopped old new end EventFault.NoMemory kept memory is here

      pub a_part : (old : P) (end : End) (new : P) → Kept old → PartDone due done w lists part old end new → Ends end new
      a_part =
          in_turn (λ _. Unit {0}) (StageDone due done w lists part) (λ stage p a q _. a_stage stage p a q)
          (Crossings ∷ Turns ∷ Claims ∷ []) (λ k d inside. tt)

  module _ (mid : P) (Rest : Type 0) (end : End) (new : P) where
    by_end : (Kept mid → Rest → Ends end new) → (one : End) → Ends one mid → After one mid end new Rest → Ends end new
    by_end again (Ok done) ended more = again ended.0 more
    by_end again (Err f) ended (is, here) = stopped mid new end f ended.0 ended.1 is here

  module _ (Q : PartView → Type 0) (due : P → PartView → End → P → Type 0) (done : P → ℕ)
      (each : (part : PartView) (p : P) (a : End) (q : P) → Q part → Kept p → due p part a q → Ends a q)
      (parts : List PartView) (so : All Q parts) (most : ℕ) where
    pub all_turns : (n left : ℕ) (old : P) (end : End) (new : P) → Kept old → TurnsDone due done parts most n left old end new
        → Ends end new
    all_turns zero left old end new kept (is, here) = at_once old new end kept is here
    all_turns (suc n) zero old end new kept (is, here) = at_once old new end kept is here
    all_turns (suc n) (suc left) old end new kept (first, mid, did, rest) =
        by_end mid (TurnsDone due done parts most n (if nat_eq (done mid) (done old) then left else most) mid end new) end new
        (λ kept_so more. all_turns n (if nat_eq (done mid) (done old) then left else most) mid end new kept_so more) first
        (in_turn Q (λ part p a q. due p part a q) each parts so old first mid kept did) rest
