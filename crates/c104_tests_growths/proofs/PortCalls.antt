-- Calls of the debugger through a port: what each command keeps, the whole call keeps.
use Rattle.c104_tools.specs.{Outcomes.{Given, Judge, Outcome}, Steps.Step, declared.faults.LoadFault.LoadFault}
use Rattle.{c104_workers.proofs.PortRuns.all_keep, std.proofs.Common.{Bool, List, Result, false, nat_lt, refl, subst, sym, true, ℕ, ◌<◌}}
use Rattle.std.proofs.{Common.{◌≡◌, ◌≤◌}, lemmas.Bool.Decides.nat_tests}
use native.Mathlib.Omega.{arith}

module _ {P : Type 0} (due : P → ℕ → List ℕ → Given → P → Type 0) (Keeps : P → P → Type 0)
    (at_once : (p : P) → Keeps p p) (on : (p q r : P) → Keeps p q → Keeps q r → Keeps p r)
    (each : (p q : P) (s : ℕ) (bytes : List ℕ) (given : Given) → due p s bytes given q → Keeps p q) where
  pub switch_keeps : {X : Type 0} (judge : Judge) (make : List ℕ → Result X LoadFault) (steps : List Step) (p q : P)
      (result : Result X LoadFault) (count switch : ℕ) →
      (count ≤ switch → q ≡ p) → (switch < count → Outcome due judge make p steps result q) → Keeps p q
  switch_keeps {X} judge make steps p q result count switch not_asked asked = by_less (nat_lt switch count) refl
    where
      by_less : (b : Bool) → nat_lt switch count ≡ b → Keeps p q
      by_less true is =
          let outcome : Outcome due judge make p steps result q = asked (grind (arith, is, nat_tests)) in
          all_keep due Keeps at_once on each judge steps p q outcome.read outcome.came
      by_less false is = subst (Keeps p) (sym (not_asked (grind (arith, is, nat_tests)))) (at_once p)
