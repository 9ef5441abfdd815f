-- A worker's turns: what is left of them when some were done, and what all of them keep that each event keeps.
use Rattle.{c104_event.specs.declared.{events.Event.Event, faults.EventFault.EventFault}, c104_run.proofs.KeptElements.drop_all}
use Rattle.{c104_run.proofs.KeptElements.{drop_next, got}, c104_turns.specs.Turns.{End, InTurn, Often, PartDone, StageDone, TurnsDone}}
use Rattle.c104_turns.specs.{Turns.{events_at, handed, with_some}, Working.PartView, declared.parts.Stage.{Stage, TheVariants.Claims}}
use Rattle.{c104_turns.specs.declared.{parts.Stage.TheVariants.{Crossings, Turns}, turns.Worker.Worker}, std.proofs.Common.{All, Bool, Err}}
use Rattle.std.proofs.Common.{IfErr, List, None, Ok, Option, Result, Some, [], ap, arith, drop, false, get_or, if◌then◌else◌, inl, inr}
use Rattle.std.proofs.Common.{length, map, nat_eq, nat_lt, refl, slice_get, subst, suc, sym, true, zero, ℕ, ◌+◌, ◌-◌, ◌∙◌, ◌∷◌, ◌≡◌, ◌≤◌}
use Rattle.std.proofs.lemmas.{Bool.Decides.nat_tests, List.{Elements.{All-cons, All-nil}, drop-map}, Option.slice_get_past}
use Rattle.std.{proofs.lemmas.Result.err_from_is_err_and, specs.Result.{IsErr, IsErrAnd}}

-- a fault that is passed on
pub err_is : {X : Type 0} (result : Result X EventFault) (f : EventFault) → IsErr result × IsErrAnd result (λ e. e ≡ f) → result ≡ Err f
err_is result f is = let p = err_from_is_err_and result is.1 in p.1 ∙ ap Err p.2

-- what is left of a list of what is made of each element
pub mapped_next : {X Y : Type 0} (f : X → Y) (xs : List X) (i : ℕ) (x : X) → slice_get xs i ≡ Some x
    → drop i (map f xs) ≡ f x ∷ drop (i + 1) (map f xs)
mapped_next {X} {Y} f xs i x at =
    drop-map f i xs ∙ ap (map f) (drop_next xs i x at) ∙ ap (λ (ys : List Y). f x ∷ ys) (sym (drop-map f (i + 1) xs))

pub mapped_all : {X Y : Type 0} (f : X → Y) (xs : List X) (i : ℕ) → length xs ≤ i → drop i (map f xs) ≡ []
mapped_all f xs i past = drop-map f i xs ∙ ap (map f) (drop_all xs i past)

-- what is left of the events of some numbers
module _ (events : List Event) (numbers : List ℕ) (i n : ℕ) (at : slice_get numbers i ≡ Some n) where
  next_number : events_at events (drop i numbers) ≡ with_some (slice_get events n) (events_at events (drop (i + 1) numbers))
  next_number = ap (events_at events) (drop_next numbers i n at)

  pub event_next : (e : Event) → true ≡ nat_lt n (length events) → e ≡ get_or events n e
      → events_at events (drop i numbers) ≡ e ∷ events_at events (drop (i + 1) numbers)
  event_next e inside is =
      next_number
      ∙ ap (λ (o : Option Event). with_some o (events_at events (drop (i + 1) numbers)))
      (got events n e e is (grind (arith, nat_tests, inside)))

  pub no_event : false ≡ nat_lt n (length events) → events_at events (drop i numbers) ≡ events_at events (drop (i + 1) numbers)
  no_event past =
      next_number
      ∙ ap (λ (o : Option Event). with_some o (events_at events (drop (i + 1) numbers)))
      (slice_get_past events n (grind (arith, nat_tests, past)))

-- how many turns are left to do nothing
pub idle_less : (a b less most left : ℕ) → a ≡ b → left ≡ less → left ≡ (if nat_eq a b then less else most)
idle_less a b less most left same is = let equal : nat_eq a b ≡ true = grind (arith, nat_tests, same) in rw equal is

pub idle_anew : (a b less most left : ℕ) → (a ≡ b → ⊥) → left ≡ most → left ≡ (if nat_eq a b then less else most)
idle_anew a b less most left other is = let unequal : nat_eq a b ≡ false = grind (arith, nat_tests, other) in rw unequal is

-- those that are there of some events are such, if all are
module _ (Q : Event → Type 0) where
  there : (events : List Event) (n : ℕ) (e : Event) → All Q events → slice_get events n ≡ Some e → Q e
  there [] n e so here = absurd (cc here)
  there (x ∷ events) zero e so here = subst Q (let same : x ≡ e = cc here in same) (so 0 x (omega arith))
  there (x ∷ events) (suc n) e so here = there events n e (λ k d inside. so (suc k) d (omega (arith, inside))) here

  listed_next : (events : List Event) (n : ℕ) (rest : List Event) → All Q events → All Q rest → (o : Option Event) → slice_get events n ≡ o
      → All Q (with_some o rest)
  listed_next events n rest so others None is = others
  listed_next events n rest so others (Some e) is = All-cons Q e rest (there events n e so is) others

  listed_all : (events : List Event) → All Q events → (numbers : List ℕ) → All Q (events_at events numbers)
  listed_all events so [] = All-nil Q
  listed_all events so (n ∷ numbers) =
      listed_next events n (events_at events numbers) so (listed_all events so numbers) (slice_get events n) refl

module _ {P : Type 0} where
  -- all comes to what the rest comes to
  abbrev pub Leads : (End → P → Type 0) → (End → P → Type 0) → Type 0
  Leads rest all = (end : End) (new : P) → rest end new → all end new

  module _ {X : Type 0} (one : X → P → End → P → Type 0) (all : End → P → Type 0) where
    pub turn_on : (x : X) (xs ys : List X) (old mid : P) → ys ≡ x ∷ xs → Leads (λ end new. InTurn one ys old end new) all
        → one x old (Ok tt) mid → Leads (λ end new. InTurn one xs mid end new) all
    turn_on x xs ys old mid is left did end new rest =
        left end new (subst (λ (zs : List X). InTurn one zs old end new) (sym is) (Ok tt, mid, did, rest))

    pub turn_stops : (x : X) (xs ys : List X) (old mid : P) (end : End) (f : EventFault) → ys ≡ x ∷ xs
        → Leads (λ end new. InTurn one ys old end new) all → one x old (Err f) mid → end ≡ Err f → all end mid
    turn_stops x xs ys old mid end f is left did same =
        left end mid (subst (λ (zs : List X). InTurn one zs old end mid) (sym is) (Err f, mid, did, (same, refl)))

    pub turn_skips : (xs ys : List X) (now : P) → ys ≡ xs → Leads (λ end new. InTurn one ys now end new) all
        → Leads (λ end new. InTurn one xs now end new) all
    turn_skips xs ys now is left end new rest = left end new (subst (λ (zs : List X). InTurn one zs now end new) (sym is) rest)

    pub turn_ends : (ys : List X) (now : P) → ys ≡ [] → Leads (λ end new. InTurn one ys now end new) all → all (Ok tt) now
    turn_ends ys now is left = left (Ok tt) now (subst (λ (zs : List X). InTurn one zs now (Ok tt) now) (sym is) (refl, refl))

  module _ (due : P → Event → Result Bool EventFault → P → Type 0) (done : P → ℕ) (w : Worker) (all : End → P → Type 0) (e : Event) where
    abbrev Left : ℕ → P → Type 0
    Left n now = Leads (λ end new. Often due done w n e now end new) all

    pub often_on : (n m : ℕ) (old mid : P) (again : Bool) → again ≡ true → n ≡ m + 1 → Left n old
        → due old (handed w (done old) e) (Ok again) mid → Left m mid
    often_on n m old mid again once_more is left did end new rest =
        let more : n ≡ suc m = omega (arith, is) in
        left end new (subst (λ (k : ℕ). Often due done w k e old end new) (sym more)
        (Ok true, mid, subst (λ (b : Bool). due old (handed w (done old) e) (Ok b) mid) once_more did, rest))

    pub often_ends : (n m : ℕ) (old mid : P) (again : Bool) → again ≡ false → n ≡ m + 1 → Left n old
        → due old (handed w (done old) e) (Ok again) mid → all (Ok tt) mid
    often_ends n m old mid again no_more is left did =
        let more : n ≡ suc m = omega (arith, is) in
        left (Ok tt) mid (subst (λ (k : ℕ). Often due done w k e old (Ok tt) mid) (sym more)
        (Ok false, mid, subst (λ (b : Bool). due old (handed w (done old) e) (Ok b) mid) no_more did, (refl, refl)))

    pub often_stops : (n m : ℕ) (old mid : P) (end : End) (f : EventFault) → n ≡ m + 1 → Left n old
        → due old (handed w (done old) e) (Err f) mid → end ≡ Err f → all end mid
    often_stops n m old mid end f is left did same =
        let more : n ≡ suc m = omega (arith, is) in
        left end mid (subst (λ (k : ℕ). Often due done w k e old end mid) (sym more) (Err f, mid, did, (same, refl)))

    pub often_none : (n : ℕ) (now : P) → n ≡ 0 → Left n now → all (Ok tt) now
    often_none n now is left = left (Ok tt) now (subst (λ (k : ℕ). Often due done w k e now (Ok tt) now) (sym is) (refl, refl))

  module _ (due : P → PartView → End → P → Type 0) (done : P → ℕ) (parts : List PartView) (most : ℕ) (all : End → P → Type 0) where
    abbrev TurnsLeft : ℕ → ℕ → P → Type 0
    TurnsLeft n left now = Leads (λ end new. TurnsDone due done parts most n left now end new) all

    abbrev Turn : P → End → P → Type 0
    Turn old end new = InTurn (λ part old end new. due old part end new) parts old end new

    pub turns_on : (n m left less next : ℕ) (old mid : P) → n ≡ m + 1 → left ≡ less + 1 → TurnsLeft n left old → Turn old (Ok tt) mid
        → next ≡ (if nat_eq (done mid) (done old) then less else most) → TurnsLeft m next mid
    turns_on n m left less next old mid is some leads did same end new rest =
        let more : n ≡ suc m = omega (arith, is) in
        let one : left ≡ suc less = omega (arith, some) in
        leads end new (subst (λ (k : ℕ). TurnsDone due done parts most k left old end new) (sym more)
        (subst (λ (l : ℕ). TurnsDone due done parts most (suc m) l old end new) (sym one)
        (Ok tt, mid, did, subst (λ (l : ℕ). TurnsDone due done parts most m l mid end new) same rest)))

    pub turns_stop : (n m left less : ℕ) (old mid : P) (end : End) (f : EventFault) → n ≡ m + 1 → left ≡ less + 1 → TurnsLeft n left old
        → Turn old (Err f) mid → end ≡ Err f → all end mid
    turns_stop n m left less old mid end f is some leads did same =
        let more : n ≡ suc m = omega (arith, is) in
        let one : left ≡ suc less = omega (arith, some) in
        leads end mid (subst (λ (k : ℕ). TurnsDone due done parts most k left old end mid) (sym more)
        (subst (λ (l : ℕ). TurnsDone due done parts most (suc m) l old end mid) (sym one) (Err f, mid, did, (same, refl))))

    pub turns_none : (n left : ℕ) (now : P) → n ≡ 0 → TurnsLeft n left now → all (Ok tt) now
    turns_none n left now is leads =
        leads (Ok tt) now (subst (λ (k : ℕ). TurnsDone due done parts most k left now (Ok tt) now) (sym is) (refl, refl))

    pub turns_idle : (n left : ℕ) (now : P) → left ≡ 0 → TurnsLeft n left now → all (Ok tt) now
    turns_idle zero left now is leads = leads (Ok tt) now (refl, refl)
    turns_idle (suc n) left now is leads =
        leads (Ok tt) now (subst (λ (l : ℕ). TurnsDone due done parts most (suc n) l now (Ok tt) now) (sym is) (refl, refl))

-- What each event keeps, turns keep
module _ {P : Type 0} (R : P → P → Type 0) (same : (p : P) → R p p) (on : (p q r : P) → R p q → R q r → R p r) (S : EventFault → Type 0) where
  -- this is so behind an end, and its fault is such a one
  abbrev pub Keeps : P → End → P → Type 0
  Keeps old end new = R old new × IfErr end S

  none_keeps : (old new : P) (end : End) → end ≡ Ok tt → new ≡ old → Keeps old end new
  none_keeps old new end is here =
      (subst (R old) (sym here) (same old), subst (λ (a : End). IfErr a S) (sym is) tt)

  stop_keeps : (old mid new : P) (end : End) (f : EventFault) → R old mid → S f → end ≡ Err f → new ≡ mid → Keeps old end new
  stop_keeps old mid new end f first so is here =
      (subst (R old) (sym here) first, subst (λ (a : End). IfErr a S) (sym is) so)

  then_keeps : (old mid new : P) (end : End) → R old mid → Keeps mid end new → Keeps old end new
  then_keeps old mid new end first rest = (on old mid new first rest.0, rest.1)

  pub in_turn_keeps : {X : Type 0} (Q : X → Type 0) (one : X → P → End → P → Type 0)
      → ((x : X) (p : P) (a : End) (q : P) → Q x → one x p a q → Keeps p a q)
      → (xs : List X) → All Q xs → (old : P) (end : End) (new : P) → InTurn one xs old end new → Keeps old end new
  in_turn_keeps Q one each [] so old end new (is, here) = none_keeps old new end is here
  in_turn_keeps {X} Q one each (x ∷ xs) so old end new (Ok done, mid, did, rest) =
      then_keeps old mid new end (each x old (Ok done) mid (so 0 x (omega arith)) did).0
      (in_turn_keeps Q one each xs (λ k d inside. so (suc k) d (omega (arith, inside))) mid end new rest)
  in_turn_keeps {X} Q one each (x ∷ xs) so old end new (Err f, mid, did, (is, here)) =
      let first : Keeps old (Err f) mid = each x old (Err f) mid (so 0 x (omega arith)) did in
      stop_keeps old mid new end f first.0 first.1 is here

  module _ (due : P → Event → Result Bool EventFault → P → Type 0) (done : P → ℕ) (w : Worker) (Q : Event → Type 0)
      (each : (e : Event) (p : P) (a : Result Bool EventFault) (q : P) → Q e → due p (handed w (done p) e) a q → R p q × IfErr a S)
      (memory : S EventFault.NoMemory) where
    often_keeps : (e : Event) → Q e → (n : ℕ) (old : P) (end : End) (new : P) → Often due done w n e old end new → Keeps old end new
    often_keeps e so zero old end new (is, here) = none_keeps old new end is here
    often_keeps e so (suc n) old end new (Ok true, mid, did, rest) =
        then_keeps old mid new end (each e old (Ok true) mid so did).0 (often_keeps e so n mid end new rest)
    often_keeps e so (suc n) old end new (Ok false, mid, did, (is, here)) =
        then_keeps old mid new end (each e old (Ok false) mid so did).0 (none_keeps mid new end is here)
    often_keeps e so (suc n) old end new (Err f, mid, did, (is, here)) =
        let first = each e old (Err f) mid so did in
        stop_keeps old mid new end f first.0 first.1 is here

    module _ (lists : P → PartView → Stage → List ℕ → Type 0) (part : PartView) (so : All Q part.events) where
      stage_keeps : (stage : Stage) (old : P) (end : End) (new : P) → StageDone due done w lists part stage old end new → Keeps old end new
      stage_keeps stage old end new (inl (numbers, listed, did)) =
          in_turn_keeps Q (λ e. Often due done w w.times e) (λ e p a q own. often_keeps e own w.times p a q)
          (events_at part.events numbers) (listed_all Q part.events so numbers) old end new did
      stage_keeps stage old end new (inr (is, here)) = stop_keeps old old new end EventFault.NoMemory (same old) memory is here

    pub part_keeps : (lists : P → PartView → Stage → List ℕ → Type 0) (part : PartView) → All Q part.events
        → (old : P) (end : End) (new : P) → PartDone due done w lists part old end new → Keeps old end new
    part_keeps lists part so =
        in_turn_keeps (λ _. Unit {0}) (StageDone due done w lists part) (λ stage p a q _. stage_keeps lists part so stage p a q)
        (Crossings ∷ Turns ∷ Claims ∷ []) (λ k d inside. tt)
