-- In a fair round an input that is given an output that another could have had stood before that one.
--     ClaimsLaw apply idle      what claims leave, of which this says whether they can be made
--     Runs P x events      each of these events that passes an input is of one that stands before it; and where they end P holds
use Rattle.{c104_deadlock.proofs.LinkPlaces.{back_apart, links_before}, c104_event.specs.declared.events.Event.Event}
use Rattle.{c104_event.specs.declared.faults.EventFault.EventFault, c104_run.proofs.{LinkOrders.other_turns, RoundRuns.Applied}}
use Rattle.c104_run.specs.{EventRuns.{Outcome, run_events, unless_fault}, FairRounds.{InTurn, fairly, first_turns, output_turns, served}}
use Rattle.c104_run.specs.{FairRounds.{switch_turns, to_back, turned_if, turns_of}, NetRecords.is_done}
use Rattle.{c104_run.specs.declared.turns.SwitchTurns.SwitchTurns, c104_switch.specs.Actions.{Reply, is_ready}, std.proofs.Common.Bool}
use Rattle.std.proofs.Common.{Err, List, Ok, Result, [], ap, arith, false, inl, inr, length, refl, slice_set, subst, suc, sym, true}
use Rattle.std.proofs.{Common.{unwrap_or, zero, ℕ, ◌++◌, ◌<◌, ◌∙◌, ◌∷◌, ◌≡◌, ◌≢◌, ◌⊎◌}, lemmas.Bool.{Decides.nat_tests, cases_eq}}
use Rattle.std.{proofs.lemmas.List.length-set, specs.List.{AllByRecursion, flat_map}}

-- what claims leave, by what says that one can't be made
pub record ClaimsLaw (S : Type 0) (apply : S → Event → Applied S) (idle : S → ℕ → ℕ → ℕ → Type 0) : Type 0 where
  -- one that is done can be made, and one that is answered and not done can't
  pub ready : (x : S) (s i o : ℕ) → is_done (apply x (Event.Claim s i o)).0 ≡ true → idle x s i o → ⊥
  pub waits : (x : S) (s i o : ℕ) (r : Reply) → (apply x (Event.Claim s i o)).0 ≡ Ok r → is_ready r ≡ false → idle x s i o
  -- an input that made one makes no more
  pub streams : (x : S) (s i o u : ℕ) → is_done (apply x (Event.Claim s i o)).0 ≡ true → idle (apply x (Event.Claim s i o)).1 s i u
  -- and none can be made that couldn't be before
  pub fewer : (x : S) (t k c s i o : ℕ) → idle x s i o → idle (apply x (Event.Claim t k c)).1 s i o

-- the turns of a switch after a claim
turns_there : (turns : List SwitchTurns) (s : ℕ) (t : SwitchTurns) → s < length turns → turns_of (slice_set turns s t) s ≡ t
turns_there [] s t inside = absurd (omega arith)
turns_there (u ∷ turns) zero t inside = refl
turns_there (u ∷ turns) (suc s) t inside = turns_there turns s t (omega arith)

turns_elsewhere : (turns : List SwitchTurns) (t : ℕ) (u : SwitchTurns) (s : ℕ) → s ≢ t → turns_of (slice_set turns t u) s ≡ turns_of turns s
turns_elsewhere turns t u s other = ap (λ o. unwrap_or o first_turns) (other_turns turns t u s other)

module _ {S : Type 0} (apply : S → Event → Applied S) (s i : ℕ) where
  -- the inputs by turns
  abbrev pub order : InTurn S → List ℕ
  order x = (turns_of x.turns s).inputs

  -- an input whose turn comes first
  abbrev pub StandsBefore : InTurn S → ℕ → Type 0
  StandsBefore x j = links_before j (order x) < links_before i (order x)

  abbrev pub IsFair : InTurn S → Event → Type 0
  IsFair x e =
      (j o : ℕ) → e ≡ Event.Claim s j o → j ≢ i → is_done (apply x.state (Event.Claim s j o)).0 ≡ true →
      is_done (apply x.state (Event.Claim s i o)).0 ≡ true → StandsBefore x j

  abbrev pub Runs : (InTurn S → Type 0) → InTurn S → List Event → Type 0
  Runs P x [] = P x
  Runs P x (e ∷ events) = IsFair x e × ((r : Reply) → (apply x.state e).0 ≡ Ok r → Runs P (fairly apply x e).1 events)

  pub runs_map : (P Q : InTurn S → Type 0) → ((y : InTurn S) → P y → Q y) → (events : List Event) (x : InTurn S) → Runs P x events →
      Runs Q x events
  runs_map P Q more [] x runs = more x runs
  runs_map P Q more (e ∷ events) x runs = (runs.0, λ r told. runs_map P Q more events (fairly apply x e).1 (runs.1 r told))

  pub runs_then : (P Q : InTurn S → Type 0) (events more : List Event) (x : InTurn S) → Runs Q x events →
      ((y : InTurn S) → Q y → Runs P y more) → Runs P x (events ++ more)
  runs_then P Q [] more x runs rest = rest x runs
  runs_then P Q (e ∷ events) more x runs rest = (runs.0, λ r told. runs_then P Q events more (fairly apply x e).1 (runs.1 r told) rest)

  -- a run of events that isn't refused answers the first, and goes on
  pub goes_on : (x : InTurn S) (e : Event) (events : List Event) → (run_events (fairly apply) x (e ∷ events)).0 ≡ Ok tt →
      (r : Reply) × ((apply x.state e).0 ≡ Ok r) ×
      (run_events (fairly apply) x (e ∷ events) ≡ run_events (fairly apply) (fairly apply x e).1 events)
  goes_on x e events goes = by_answer (apply x.state e).0 refl goes
    where
      by_answer : (answer : Result Reply EventFault) → (apply x.state e).0 ≡ answer →
          (unless_fault answer (fairly apply x e).1 (λ n. run_events (fairly apply) n events)).0 ≡ Ok tt →
          (r : Reply) × ((apply x.state e).0 ≡ Ok r) ×
          (run_events (fairly apply) x (e ∷ events) ≡ run_events (fairly apply) (fairly apply x e).1 events)
      by_answer (Ok r) told goes = (
        r,
        told,
        ap (λ (a : Result Reply EventFault). unless_fault a (fairly apply x e).1 (λ n. run_events (fairly apply) n events)) told,
      )
      by_answer (Err f) told goes = absurd (cc goes)

  -- those behind some that aren't refused
  pub runs_behind : (P : InTurn S → Type 0) (events more : List Event) (x y : InTurn S) → Runs P x (events ++ more) →
      run_events (fairly apply) x events ≡ (Ok tt, y) → Runs P y more
  runs_behind P [] more x y runs leads = subst (λ z. Runs P z more) (ap (λ (o : Outcome (InTurn S)). o.1) leads) runs
  runs_behind P (e ∷ events) more x y runs leads =
      let first = goes_on x e events (ap (λ (o : Outcome (InTurn S)). o.0) leads) in
      runs_behind P events more (fairly apply x e).1 y (runs.1 first.0 first.1) (sym first.2 ∙ leads)

  -- where they end
  pub runs_to : (P : InTurn S → Type 0) (events : List Event) (x : InTurn S) → Runs P x events →
      Runs (λ y. P y × ((run_events (fairly apply) x events).1 ≡ y)) x events
  runs_to P [] x runs = (runs, refl)
  runs_to P (e ∷ events) x runs = (
    runs.0,
    λ r told.
        let next : InTurn S = (fairly apply x e).1 in
        let same : (run_events (fairly apply) x (e ∷ events)).1 ≡ (run_events (fairly apply) next events).1 =
        ap (λ (a : Result Reply EventFault). (unless_fault a next (λ n. run_events (fairly apply) n events)).1) told in
        runs_map (λ y. P y × ((run_events (fairly apply) next events).1 ≡ y))
        (λ y. P y × ((run_events (fairly apply) x (e ∷ events)).1 ≡ y)) (λ y both. (both.0, same ∙ both.1)) events next
        (runs_to P events next (runs.1 r told)),
  )

  -- the order after a claim: where that was done its input goes behind all others, and else all is as it was
  pub order_moved : (x : InTurn S) (k c : ℕ) → s < length x.turns → is_done (apply x.state (Event.Claim s k c)).0 ≡ true →
      order (fairly apply x (Event.Claim s k c)).1 ≡ to_back k (order x)
  order_moved x k c inside done =
      ap (λ b. (turns_of (turned_if b x.turns (Event.Claim s k c)) s).inputs) done
      ∙ ap (λ (u : SwitchTurns). u.inputs) (turns_there x.turns s (served k c (turns_of x.turns s)) inside)

  pub order_after : (x : InTurn S) (t k c : ℕ) → s < length x.turns →
      (order (fairly apply x (Event.Claim t k c)).1 ≡ order x) ⊎
      ((t ≡ s) × (is_done (apply x.state (Event.Claim t k c)).0 ≡ true) ×
      (order (fairly apply x (Event.Claim t k c)).1 ≡ to_back k (order x)))
  order_after x t k c inside = by_done (is_done (apply x.state (Event.Claim t k c)).0) refl (cases_eq s t)
    where
      by_done : (done : Bool) → is_done (apply x.state (Event.Claim t k c)).0 ≡ done → (s ≡ t) ⊎ (s ≢ t) →
          ((turns_of (turned_if done x.turns (Event.Claim t k c)) s).inputs ≡ order x) ⊎
          ((t ≡ s) × (is_done (apply x.state (Event.Claim t k c)).0 ≡ true) ×
          ((turns_of (turned_if done x.turns (Event.Claim t k c)) s).inputs ≡ to_back k (order x)))
      by_done false is same = inl refl
      by_done true is (inr other) =
          inl (ap (λ (u : SwitchTurns). u.inputs) (turns_elsewhere x.turns t (served k c (turns_of x.turns t)) s other))
      by_done true is (inl same) =
          inr (
            sym same,
            is,
            subst (λ v. (turns_of (slice_set x.turns v (served k c (turns_of x.turns v))) s).inputs ≡ to_back k (order x))
                same (ap (λ (u : SwitchTurns). u.inputs) (turns_there x.turns s (served k c (turns_of x.turns s)) inside)),
          )

  pub length_after : (x : InTurn S) (e : Event) → length (fairly apply x e).1.turns ≡ length x.turns
  length_after x e = by_done (is_done (apply x.state e).0) e
    where
      by_done : (done : Bool) (e : Event) → length (turned_if done x.turns e) ≡ length x.turns
      by_done false e = refl
      by_done true (Event.Claim t k c) = length-set x.turns t (served k c (turns_of x.turns t))
      by_done true e = refl

  -- events that are no claims
  abbrev pub IsNoClaim : Event → Type 0
  IsNoClaim (Event.Claim t k c) = ⊥
  IsNoClaim e = Unit {0}

  unclaimed : (x : InTurn S) (e : Event) → IsNoClaim e → IsFair x e
  unclaimed x (Event.Claim t k c) none j o is = absurd none
  unclaimed x e none j o is = absurd (cc is)

  pub turns_stay : (turns : List SwitchTurns) (done : Bool) (e : Event) → IsNoClaim e → turned_if done turns e ≡ turns
  turns_stay turns false e none = refl
  turns_stay turns true (Event.Claim t k c) none = absurd none
  turns_stay turns true e none = refl

  pub walk_others : (turns : List SwitchTurns) (events : List Event) (x : InTurn S) → x.turns ≡ turns → AllByRecursion IsNoClaim events →
      Runs (λ y. y.turns ≡ turns) x events
  walk_others turns [] x same all = same
  walk_others turns (e ∷ events) x same all = (
    unclaimed x e all.0,
    λ r told.
        walk_others turns events (fairly apply x e).1 (turns_stay x.turns (is_done (apply x.state e).0) e all.0 ∙ same) all.1,
  )

  module _ (idle : S → ℕ → ℕ → ℕ → Type 0) (law : ClaimsLaw S apply idle) where
    -- an input can claim nothing
    abbrev Quiet : InTurn S → ℕ → Type 0
    Quiet x j = (u : ℕ) → idle x.state s j u

    quiet_still : (x : InTurn S) (t k c j : ℕ) → Quiet x j → Quiet (fairly apply x (Event.Claim t k c)).1 j
    quiet_still x t k c j quiet u = law.fewer x.state t k c s j u (quiet u)

    -- a claim that was tried can't be made again in its round
    tried : (x : InTurn S) (k c : ℕ) (r : Reply) → (apply x.state (Event.Claim s k c)).0 ≡ Ok r →
        idle (fairly apply x (Event.Claim s k c)).1.state s k c
    tried x k c r told = by_ready (is_ready r) refl
      where
        by_ready : (done : Bool) → is_ready r ≡ done → idle (apply x.state (Event.Claim s k c)).1 s k c
        by_ready true ready = law.streams x.state s k c c (ap is_done told ∙ ready)
        by_ready false ready = law.fewer x.state s k c s k c (law.waits x.state s k c r told ready)

    -- the order of the claims of a round, and what is left of it while they go on: of the inputs that can still claim something
    -- none goes behind
    module _ (first : List ℕ) where
      abbrev IsFirst : ℕ → Type 0
      IsFirst j = links_before j first < links_before i first

      pub record StillFirst (x : InTurn S) : Type 0 where
        pub inside : s < length x.turns
        pub each : (j : ℕ) → Quiet x j ⊎ (Quiet x i ⊎ (IsFirst j → StandsBefore x j))

      module _ (x : InTurn S) (t k c : ℕ) (still : StillFirst x) where
        abbrev next : InTurn S
        next = (fairly apply x (Event.Claim t k c)).1

        abbrev NextFirst : ℕ → Type 0
        NextFirst j = Quiet next j ⊎ (Quiet next i ⊎ (IsFirst j → StandsBefore next j))

        ordered : (j : ℕ) (links : List ℕ) → order next ≡ links → (IsFirst j → links_before j links < links_before i links) → NextFirst j
        ordered j links is before = inr (inr (λ h. subst (λ (ls : List ℕ). links_before j ls < links_before i ls) (sym is) (before h)))

        first_after : (j : ℕ) → Quiet x j ⊎ (Quiet x i ⊎ (IsFirst j → StandsBefore x j)) →
            (order next ≡ order x) ⊎
            ((t ≡ s) × (is_done (apply x.state (Event.Claim t k c)).0 ≡ true) × (order next ≡ to_back k (order x))) → NextFirst j
        first_after j (inl quiet) turn = inl (quiet_still x t k c j quiet)
        first_after j (inr (inl quiet)) turn = inr (inl (quiet_still x t k c i quiet))
        first_after j (inr (inr before)) (inl same) = ordered j (order x) same before
        first_after j (inr (inr before)) (inr moved) = by_same (cases_eq j k) (cases_eq i k)
          where
            streams : Quiet next k
            streams u = subst (λ v. idle next.state v k u) moved.0 (law.streams x.state t k c u moved.1)

            by_same : (j ≡ k) ⊎ (j ≢ k) → (i ≡ k) ⊎ (i ≢ k) → NextFirst j
            by_same (inl same) own = inl (subst (λ l. Quiet next l) (sym same) streams)
            by_same (inr one) (inl same) = inr (inl (subst (λ l. Quiet next l) (sym same) streams))
            by_same (inr one) (inr other) = ordered j (to_back k (order x)) moved.2 (λ h. back_apart k j i (order x) one other (before h))

        stays_first : StillFirst next
        stays_first = record {
          inside = (let same = length_after x (Event.Claim t k c) in omega (arith, same, still.inside));
          each = λ j. first_after j (still.each j) (order_after x t k c still.inside);
        }

      -- the claims of an input, of which each is of one that stood before, or the input's own, or comes when none of the input
      -- can be made
      abbrev Idle : InTurn S → List ℕ → Type 0
      Idle x outputs = AllByRecursion (λ o. idle x.state s i o) outputs

      idle_after : (x : InTurn S) (t k c : ℕ) (outputs : List ℕ) → Idle x outputs → Idle (fairly apply x (Event.Claim t k c)).1 outputs
      idle_after x t k c [] all = tt
      idle_after x t k c (o ∷ outputs) all = (law.fewer x.state t k c s i o all.0, idle_after x t k c outputs all.1)

      -- what an input's claims keep
      walk_keeps : (Q : InTurn S → Type 0) (j : ℕ) → ((x : InTurn S) (c : ℕ) → Q x → Q (fairly apply x (Event.Claim s j c)).1) →
          (P : InTurn S → Type 0) (outputs : List ℕ) (x : InTurn S) → Q x → Runs P x (output_turns s j outputs) →
          Runs (λ y. P y × Q y) x (output_turns s j outputs)
      walk_keeps Q j keeps P [] x has runs = (runs, has)
      walk_keeps Q j keeps P (o ∷ outputs) x has runs =
          (runs.0, λ r told. walk_keeps Q j keeps P outputs (fairly apply x (Event.Claim s j o)).1 (keeps x o has) (runs.1 r told))

      data MayClaim (x : InTurn S) (j : ℕ) (outputs : List ℕ) : Type 0 where
        Own : j ≡ i → MayClaim x j outputs
        Before : IsFirst j → MayClaim x j outputs
        Past : Idle x outputs → MayClaim x j outputs

      fair_claim : (x : InTurn S) (j o : ℕ) (outputs : List ℕ) → StillFirst x → MayClaim x j (o ∷ outputs) → IsFair x (Event.Claim s j o)
      fair_claim x j o outputs still may k c is other done would =
          let input : j ≡ k = cc in let output : o ≡ c = cc in by_way may input output (still.each k)
        where
          by_way : MayClaim x j (o ∷ outputs) → j ≡ k → o ≡ c → Quiet x k ⊎ (Quiet x i ⊎ (IsFirst k → StandsBefore x k)) → StandsBefore x k
          by_way (Own own) input output turn = absurd (other (sym input ∙ own))
          by_way (Past idles) input output turn = absurd (law.ready x.state s i c would (subst (idle x.state s i) output idles.0))
          by_way (Before h) input output (inl quiet) = absurd (law.ready x.state s k c done (quiet c))
          by_way (Before h) input output (inr (inl quiet)) = absurd (law.ready x.state s i c would (quiet c))
          by_way (Before h) input output (inr (inr before)) = before (subst IsFirst input h)

      may_after : (x : InTurn S) (j o : ℕ) (outputs : List ℕ) → MayClaim x j (o ∷ outputs) →
          MayClaim (fairly apply x (Event.Claim s j o)).1 j outputs
      may_after x j o outputs (Own own) = Own own
      may_after x j o outputs (Before h) = Before h
      may_after x j o outputs (Past idles) = Past (idle_after x s j o outputs idles.1)

      walk_outputs : (j : ℕ) (outputs : List ℕ) (x : InTurn S) → StillFirst x → MayClaim x j outputs →
          Runs StillFirst x (output_turns s j outputs)
      walk_outputs j [] x still may = still
      walk_outputs j (o ∷ outputs) x still may = (
        fair_claim x j o outputs still may,
        λ r told. walk_outputs j outputs (fairly apply x (Event.Claim s j o)).1
            (stays_first x s j o still) (may_after x j o outputs may),
      )

      -- behind its own claims an input has none that can be made
      walk_own : (P : InTurn S → Type 0) (outputs : List ℕ) (x : InTurn S) → Runs P x (output_turns s i outputs) →
          Runs (λ y. P y × Idle y outputs) x (output_turns s i outputs)
      walk_own P [] x runs = (runs, tt)
      walk_own P (o ∷ outputs) x runs = (
        runs.0,
        λ r told.
            let next : InTurn S = (fairly apply x (Event.Claim s i o)).1 in
            let rest = walk_own P outputs next (runs.1 r told) in
            let both = walk_keeps (λ y. idle y.state s i o) i (λ y c has. law.fewer y.state s i c s i o has) (λ y. P y × Idle y outputs)
            outputs next (tried x i o r told) rest in
            runs_map (λ y. (P y × Idle y outputs) × idle y.state s i o) (λ y. P y × Idle y (o ∷ outputs)) (λ y h. (h.0.0, (h.1, h.0.1)))
            (output_turns s i outputs) next both,
      )

      -- the claims of inputs in turn, while the input waits for its own, or after them
      module _ (outputs : List ℕ) where
        data IsAt (x : InTurn S) (inputs : List ℕ) : Type 0 where
          Ahead : ((j : ℕ) → links_before j inputs < links_before i inputs → IsFirst j) → IsAt x inputs
          Behind : Idle x outputs → IsAt x inputs

        abbrev Rest : List ℕ → InTurn S → Type 0
        Rest inputs y = StillFirst y × IsAt y inputs

        ahead : (j : ℕ) (inputs : List ℕ) → ((k : ℕ) → links_before k (j ∷ inputs) < links_before i (j ∷ inputs) → IsFirst k) → i ≢ j →
            (k : ℕ) → links_before k inputs < links_before i inputs → IsFirst k
        ahead j inputs before other k h = before k (grind (arith, nat_tests))

        leads : (j : ℕ) (inputs : List ℕ) → ((k : ℕ) → links_before k (j ∷ inputs) < links_before i (j ∷ inputs) → IsFirst k) → i ≢ j →
            IsFirst j
        leads j inputs before other = before j (grind (arith, nat_tests))

        walk_one : (j : ℕ) (inputs : List ℕ) (x : InTurn S) → StillFirst x → IsAt x (j ∷ inputs) → (i ≡ j) ⊎ (i ≢ j) →
            Runs (Rest inputs) x (output_turns s j outputs)
        walk_one j inputs x still (Behind idles) own =
            runs_map (λ y. StillFirst y × Idle y outputs) (Rest inputs) (λ y h. (h.0, Behind h.1)) (output_turns s j outputs) x
            (walk_keeps (λ y. Idle y outputs) j (λ y c has. idle_after y s j c outputs has) StillFirst outputs x idles
            (walk_outputs j outputs x still (Past idles)))
        walk_one j inputs x still (Ahead before) (inr other) =
            runs_map StillFirst (Rest inputs) (λ y h. (h, Ahead (ahead j inputs before other))) (output_turns s j outputs) x
            (walk_outputs j outputs x still (Before (leads j inputs before other)))
        walk_one j inputs x still (Ahead before) (inl same) =
            subst (λ k. Runs (Rest inputs) x (output_turns s k outputs)) same
            (runs_map (λ y. StillFirst y × Idle y outputs) (Rest inputs) (λ y h. (h.0, Behind h.1)) (output_turns s i outputs) x
            (walk_own StillFirst outputs x (walk_outputs i outputs x still (Own refl))))

        walk_inputs : (inputs : List ℕ) (x : InTurn S) → StillFirst x → IsAt x inputs →
            Runs StillFirst x (flat_map (λ j. output_turns s j outputs) inputs)
        walk_inputs [] x still at = still
        walk_inputs (j ∷ inputs) x still at =
            runs_then StillFirst (Rest inputs) (output_turns s j outputs) (flat_map (λ k. output_turns s k outputs) inputs) x
            (walk_one j inputs x still at (cases_eq i j)) (λ y rest. walk_inputs inputs y rest.0 rest.1)

      -- the claims of another switch pass none
      other_claim : (x : InTurn S) (t k c : ℕ) → t ≢ s → IsFair x (Event.Claim t k c)
      other_claim x t k c other j o is one done would = let same : t ≡ s = cc in absurd (other same)

      other_outputs : (t j : ℕ) → t ≢ s → (outputs : List ℕ) (x : InTurn S) → StillFirst x → Runs StillFirst x (output_turns t j outputs)
      other_outputs t j other [] x still = still
      other_outputs t j other (o ∷ outputs) x still = (
        other_claim x t j o other,
        λ r told. other_outputs t j other outputs (fairly apply x (Event.Claim t j o)).1
            (stays_first x t j o still),
      )

      other_inputs : (t : ℕ) → t ≢ s → (outputs inputs : List ℕ) (x : InTurn S) → StillFirst x →
          Runs StillFirst x (flat_map (λ j. output_turns t j outputs) inputs)
      other_inputs t other outputs [] x still = still
      other_inputs t other outputs (j ∷ inputs) x still =
          runs_then StillFirst StillFirst (output_turns t j outputs) (flat_map (λ k. output_turns t k outputs) inputs) x
          (other_outputs t j other outputs x still) (λ y rest. other_inputs t other outputs inputs y rest)

    -- the claims of switches by turns
    module _ (turns : List SwitchTurns) where
      abbrev pub Still : InTurn S → Type 0
      Still x = StillFirst (turns_of turns s).inputs x

      walk_switch : (t : ℕ) (x : InTurn S) → (t ≡ s) ⊎ (t ≢ s) → Still x → Runs Still x (switch_turns t (turns_of turns t))
      walk_switch t x (inl same) still =
          subst (λ v. Runs Still x (switch_turns v (turns_of turns v))) (sym same)
          (walk_inputs (turns_of turns s).inputs (turns_of turns s).outputs (turns_of turns s).inputs x still (Ahead (λ j h. h)))
      walk_switch t x (inr other) still =
          other_inputs (turns_of turns s).inputs t other (turns_of turns t).outputs (turns_of turns t).inputs x still

      pub walk_switches : (switches : List ℕ) (x : InTurn S) → Still x →
          Runs Still x (flat_map (λ t. switch_turns t (turns_of turns t)) switches)
      walk_switches [] x still = still
      walk_switches (t ∷ switches) x still =
          runs_then Still Still (switch_turns t (turns_of turns t)) (flat_map (λ u. switch_turns u (turns_of turns u)) switches) x
          (walk_switch t x (cases_eq t s) still) (λ y rest. walk_switches switches y rest)

      pub still_now : (x : InTurn S) → s < length turns → x.turns ≡ turns → Still x
      still_now x inside same = record {
        inside = subst (λ (ts : List SwitchTurns). s < length ts) (sym same) inside;
        each =
            λ j. inr (inr
            (λ h. subst (λ (ts : List SwitchTurns). links_before j (turns_of ts s).inputs < links_before i (turns_of ts s).inputs)
            (sym same) h));
      }
