-- Tools that ask commands of switches through a port to a fabric, one after the other: they ask them through the port's seat,
-- which stays the seat that it was.
use Rattle.c104_event.specs.{Calls.call_of, declared.{events.Event.Event, faults.EventFault.EventFault}}
use Rattle.{c104_switch.specs.declared.actions.ReplyOf.ReplyOf, c104_tools.specs.{Loaded.IsLeftBySwitch, Outcomes.{ComesTo, Given, GoesOn}}}
use Rattle.c104_tools.specs.{Outcomes.{Judge, Outcome, step_result}, Steps.Step, declared.faults.LoadFault.LoadFault}
use Rattle.{c104_turns.{proofs.SameSeats.{same_on, same_self}, specs.Calls.SeatView}, c104_workers.specs.Fabrics.FabricView}
use Rattle.{c104_workers.specs.SeatCommands.{HasMoreCalls, IsFabricUnanswered, IsLeftUnanswered, SeatCommanded}, std.proofs.Common.Bool}
use Rattle.std.proofs.Common.{Err, IfErr, List, Ok, Result, [], ap, false, inl, inr, length, nat_eq, refl, subst, sym, true, ℕ, ◌++◌, ◌<◌}
use Rattle.std.proofs.{Common.{◌∙◌, ◌∷◌, ◌≡◌, ◌≢◌, ◌⊎◌}, lemmas.{Bool.Decides.nat_tests, List.{append-nil, append_assoc}}}
use native.Mathlib.Omega.{arith}

-- what is seen of a port is asked the same, as long as it stays what each command keeps of it
module _ {P S : Type 0} (asks : P → ℕ → List ℕ → Given → P → Type 0) (does : S → ℕ → List ℕ → Given → S → Type 0)
    (seen : P → S) (Stays : P → Type 0)
    (each : (p q : P) (s : ℕ) (bytes : List ℕ) (given : Given) → Stays p → asks p s bytes given q
    → Stays q × does (seen p) s bytes given (seen q)) where
  seen_through : (judge : Judge) (steps : List Step) (p q : P) (result : Result (List ℕ) LoadFault) → Stays p
      → ComesTo asks judge p steps result q
      → Stays q × ComesTo does judge (seen p) steps result (seen q)
  seen_through judge [] p q result stays came = (subst Stays (sym came.1) stays, (came.0, ap seen came.1))
  seen_through judge (t ∷ steps) p q result stays came =
      let one = each p came.1 _ _ came.0 stays came.2 in
      let rest = by_result (λ read more. seen_through judge steps came.1 q read one.0 more) one.0 (step_result judge t came.0) came.3 in
      (rest.0, (came.0, seen came.1, one.1, rest.1))
    where
      by_result : ((read : Result (List ℕ) LoadFault) → ComesTo asks judge came.1 steps read q
          → Stays q × ComesTo does judge (seen came.1) steps read (seen q)) → Stays came.1
          → (r : Result ℕ LoadFault) → GoesOn r came.1 result q (λ s read. ComesTo asks judge s steps read q)
          → Stays q × GoesOn r (seen came.1) result (seen q) (λ s read. ComesTo does judge s steps read (seen q))
      by_result further here (Ok v) goes = let more = further goes.0 goes.2 in (more.0, (goes.0, goes.1, more.1))
      by_result further here (Err f) goes = (subst Stays (sym goes.1) here, (goes.0, ap seen goes.1))

-- what each command keeps, all of them keep
module _ {S : Type 0} (does : S → ℕ → List ℕ → Given → S → Type 0) (Keeps : S → S → Type 0) (at_once : (s : S) → Keeps s s)
    (on : (s t u : S) → Keeps s t → Keeps t u → Keeps s u)
    (each : (s t : S) (switch : ℕ) (bytes : List ℕ) (given : Given) → does s switch bytes given t → Keeps s t) where
  pub all_keep : (judge : Judge) (steps : List Step) (p q : S) (result : Result (List ℕ) LoadFault) → ComesTo does judge p steps result q
      → Keeps p q
  all_keep judge [] p q result came = subst (Keeps p) (sym came.1) (at_once p)
  all_keep judge (t ∷ steps) p q result came =
      on p came.1 q (each p came.1 _ _ came.0 came.2)
      (by_result (λ rest more. all_keep judge steps came.1 q rest more) (step_result judge t came.0) came.3)
    where
      by_result : ((rest : Result (List ℕ) LoadFault) → ComesTo does judge came.1 steps rest q → Keeps came.1 q)
          → (r : Result ℕ LoadFault) → GoesOn r came.1 result q (λ s rest. ComesTo does judge s steps rest q) → Keeps came.1 q
      by_result further (Ok v) goes = further goes.0 goes.2
      by_result further (Err f) goes = subst (Keeps came.1) (sym goes.1) (at_once came.1)

-- a seat's list grows
no_more : (s : SeatView) → HasMoreCalls s s
no_more s = record { same = same_self s; more = []; listed = sym (append-nil s.calls) }

more_on : (s t u : SeatView) → HasMoreCalls s t → HasMoreCalls t u → HasMoreCalls s u
more_on s t u first second = record {
  same = same_on s t u first.same second.same;
  more = first.more ++ second.more;
  listed = second.listed ∙ ap (λ calls. calls ++ second.more) first.listed ∙ append_assoc s.calls first.more second.more;
}

command_more : (fabric : FabricView) (s t : SeatView) (switch : ℕ) (bytes : List ℕ) (given : Given)
    → SeatCommanded fabric s switch bytes given t → HasMoreCalls s t
command_more fabric s t switch bytes (Ok told) did = record {
  same = did.same;
  more = call_of (Event.Control switch bytes) did.called.ticket (ReplyOf.Control told) ∷ [];
  listed = ap (λ (u : SeatView). u.calls) did.called.listed;
}
command_more fabric s t switch bytes (Err f) did = subst (HasMoreCalls s) (sym did.called) (no_more s)

-- a tool over a port to a fabric, which asks commands where it finds what it needs, and else nothing
module _ {P G : Type 0} (name : P → G) (fabric_of : P → FabricView) (seat_of : P → SeatView) where
  abbrev Asks : P → ℕ → List ℕ → Given → P → Type 0
  Asks r switch bytes given s =
      (name s ≡ name r) × (fabric_of s ≡ fabric_of r) × SeatCommanded (fabric_of r) (seat_of r) switch bytes given (seat_of s)

  module _ {X C : Type 0} (judge : Judge) (make : List ℕ → Result X LoadFault) (steps : List Step) (p q : P) (result : Result X LoadFault)
      (idle : (C → ⊥) → q ≡ p) (came : C → Outcome Asks judge make p steps result q) where
    abbrev Stays : P → Type 0
    Stays r = (name r ≡ name p) × (fabric_of r ≡ fabric_of p)

    each_asked : (r s : P) (switch : ℕ) (bytes : List ℕ) (given : Given) → Stays r → Asks r switch bytes given s
        → Stays s × SeatCommanded (fabric_of p) (seat_of r) switch bytes given (seat_of s)
    each_asked r s switch bytes given stays did = (
      (did.0 ∙ stays.0, did.1 ∙ stays.1),
      subst (λ f. SeatCommanded f (seat_of r) switch bytes given (seat_of s)) stays.1 did.2,
    )

    through : (c : C) → Stays q × ComesTo (SeatCommanded (fabric_of p)) judge (seat_of p) steps (came c).read (seat_of q)
    through c =
        seen_through Asks (SeatCommanded (fabric_of p)) seat_of Stays each_asked judge steps p q (came c).read (refl, refl) (came c).came

    pub tool_asked : C → Outcome (SeatCommanded (fabric_of p)) judge make (seat_of p) steps result (seat_of q)
    tool_asked c = record { read = (came c).read; came = (through c).1; made = (came c).made }

    pub tool_stays : C ⊎ (C → ⊥) → (name q ≡ name p) × HasMoreCalls (seat_of p) (seat_of q)
    tool_stays (inl c) = (
      (through c).0.0,
      all_keep (SeatCommanded (fabric_of p)) HasMoreCalls no_more more_on (command_more (fabric_of p)) judge steps
          (seat_of p) (seat_of q) (came c).read (through c).1,
    )
    tool_stays (inr never) =
        subst (λ r. (name r ≡ name p) × HasMoreCalls (seat_of p) (seat_of r)) (sym (idle never)) (refl, no_more (seat_of p))

-- two numbers are the same, or not
pub same_or_not : (a b : ℕ) → (a ≡ b) ⊎ (a ≢ b)
same_or_not a b = by_test (nat_eq a b) refl
  where
    by_test : (t : Bool) → nat_eq a b ≡ t → (a ≡ b) ⊎ (a ≢ b)
    by_test true is = inl (grind (arith, is, nat_tests))
    by_test false is = inr (grind (arith, is, nat_tests))

-- what a port to some fabric leaves unanswered, one to this may, of a switch that it has
unanswered_here : (f g : FabricView) (switch : ℕ) (e : EventFault) → switch < length g.handed.plan.switches
    → IsFabricUnanswered f switch e → IsFabricUnanswered g switch e
unanswered_here f g switch EventFault.NoNode inside is = tt
unanswered_here f g switch EventFault.TraceFull inside is = inside
unanswered_here f g switch EventFault.NoMemory inside is = inside
unanswered_here f g switch e inside is = is

module _ {P : Type 0} (fabric_of : P → FabricView) (fabric : FabricView) (count : ℕ)
    (same : length fabric.handed.plan.switches ≡ count) where
  abbrev IsLeft : LoadFault → Type 0
  IsLeft f =
      IsLeftBySwitch (λ p. length (fabric_of p).handed.plan.switches)
      (λ p switch bytes e. IsFabricUnanswered (fabric_of p) switch e) count f

  left_there : (f : LoadFault) → IsLeft f → IsLeftUnanswered fabric f
  left_there (LoadFault.Port e) left =
      let inside : left.1 < length fabric.handed.plan.switches = subst (λ n. left.1 < n) (sym same) left.4 in
      (left.1, inside, unanswered_here (fabric_of left.0) fabric left.1 e inside left.5)
  left_there f left = tt

  pub left_here : {X : Type 0} (result : Result X LoadFault) → IfErr result IsLeft → IfErr result (IsLeftUnanswered fabric)
  left_here (Ok x) left = tt
  left_here (Err f) left = left_there f left
