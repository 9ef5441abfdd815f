-- Steps that are asked through a port, one after the other: what the steps that are left come to, all come to.
use Rattle.c104_tools.specs.Outcomes.{ComesTo, GoesOn, IsTold, Judge, Outcome, and_then, nothing_made, step_result, with_value}
use Rattle.{c104_tools.specs.{Steps.{Given, Step}, declared.faults.LoadFault.LoadFault}, std.proofs.Common.{Err, List, Ok, Result, [], ap}}
use Rattle.std.{proofs.{Common.{arith, refl, subst, sym, ℕ, ◌++◌, ◌∙◌, ◌∷◌, ◌≡◌}, lemmas.Result.err_from_is_err_and}, specs.Result.IsErr}
use Rattle.std.specs.Result.{IsErrAnd}

abbrev pub Read : Type 0
Read = Result (List ℕ) LoadFault

-- a fault that is passed on
pub err_is : {X : Type 0} (result : Result X LoadFault) (f : LoadFault) → IsErr result × IsErrAnd result (λ e. e ≡ f) → result ≡ Err f
err_is result f is = let p = err_from_is_err_and result is.1 in p.1 ∙ ap Err p.2

-- what was read, and what is read after it unless that failed
abbrev pub joined : Read → Read → Read
joined (Ok values) more = and_then more (λ others. Ok (values ++ others))
joined (Err f) more = Err f

pub joined_none : (more : Read) → joined (Ok []) more ≡ more
joined_none more = search arith

joined_value : (v : ℕ) (read more : Read) → joined (with_value v read) more ≡ with_value v (joined read more)
joined_value v read more = search arith

joined_made : (values : List ℕ) (more : Read) → and_then more nothing_made ≡ and_then (joined (Ok values) more) nothing_made
joined_made values more = search arith

module _ {P : Type 0} (due : P → ℕ → List ℕ → Given → P → Type 0) (judge : Judge) where
  -- a step that was told, and those after it
  pub asked_step : (t : Step) (steps : List Step) (p q after : P) (x : Result ℕ LoadFault) (read : Read) → IsTold due p t.switch t.command x q → GoesOn (and_then x (judge t)) q read after (λ s rest. ComesTo due judge s steps rest after) → ComesTo due judge p (t ∷ steps) read after
  asked_step t steps p q after x read told goes = search arith

  -- one step alone
  module _ (t : Step) (p q : P) where
    abbrev Last : Result ℕ LoadFault → Read → Type 0
    Last x read = GoesOn x q read q (λ s rest. ComesTo due judge s [] rest q)

    pub one_done : (v w : ℕ) → IsTold due p t.switch t.command (Ok v) q → judge t v ≡ Ok w → Outcome due judge nothing_made p (t ∷ []) (Ok tt) q
    one_done v w told is = record {
      read = Ok (w ∷ []);
      came = asked_step t [] p q q (Ok v) (Ok (w ∷ [])) told (subst (λ (x : Result ℕ LoadFault). Last x (Ok (w ∷ []))) (sym is) (Ok [], refl, (refl, refl)));
      made = refl;
    }

    pub one_differs : (v : ℕ) (f : LoadFault) → IsTold due p t.switch t.command (Ok v) q → judge t v ≡ Err f → Outcome due judge nothing_made p (t ∷ []) (Err f) q
    one_differs v f told is = record {
      read = Err f;
      came = asked_step t [] p q q (Ok v) (Err f) told (subst (λ (x : Result ℕ LoadFault). Last x (Err f)) (sym is) (refl, refl));
      made = refl;
    }

    pub one_fails : (f : LoadFault) → IsTold due p t.switch t.command (Err f) q → Outcome due judge nothing_made p (t ∷ []) (Err f) q
    one_fails f told = record { read = Err f; came = asked_step t [] p q q (Err f) (Err f) told (refl, refl); made = refl }

  pub none_left : (p : P) → Outcome due judge nothing_made p [] (Ok tt) p
  none_left p = record { read = Ok []; came = (refl, refl); made = refl }

  -- what came of steps, and of those after them unless they failed
  abbrev Then : Read → P → List Step → Read → P → Type 0
  Then (Ok values) mid second more after = ComesTo due judge mid second more after
  Then (Err f) mid second more after = after ≡ mid

  module _ (second : List Step) (mid after : P) (more : Read) where
    then_value : (v : ℕ) (read : Read) → Then (with_value v read) mid second more after → Then read mid second more after
    then_value v read then = search arith

    goes_then : (first : List Step) (next : P) (read : Read) → ((rest : Read) → ComesTo due judge next first rest mid → Then rest mid second more after → ComesTo due judge next (first ++ second) (joined rest more) after) → Then read mid second more after → (x : Result ℕ LoadFault) → GoesOn x next read mid (λ s rest. ComesTo due judge s first rest mid) → GoesOn x next (joined read more) after (λ s rest. ComesTo due judge s (first ++ second) rest after)
    goes_then first next read each then x goes = search (arith, joined_value, then_value)

    pub came_then : (first : List Step) (p : P) (read : Read) → ComesTo due judge p first read mid → Then read mid second more after → ComesTo due judge p (first ++ second) (joined read more) after
    came_then [] p read (is, same) then = search (arith, joined_none)
    came_then (t ∷ first) p read (given, next, gave, goes) then =
        (given, next, gave, goes_then first next read (λ rest came. came_then first next rest came) then (step_result judge t given) goes)

  -- all steps come to what those come to that are left
  abbrev pub Leaves : P → List Step → P → List Step → Type 0
  Leaves old all now rest = (result : Result (Unit {0}) LoadFault) (after : P) → Outcome due judge nothing_made now rest result after → Outcome due judge nothing_made old all result after

  pub leaves_all : (p : P) (all rest : List Step) → all ≡ rest → Leaves p all p rest
  leaves_all p all rest is result after out = subst (λ steps. Outcome due judge nothing_made p steps result after) (sym is) out

  pub leaves_none : (old now : P) (all rest : List Step) → rest ≡ [] → Leaves old all now rest → Outcome due judge nothing_made old all (Ok tt) now
  leaves_none old now all rest is left = left (Ok tt) now (leaves_all now rest [] is (Ok tt) now (none_left now))

  module _ (old now new : P) (all rest more later : List Step) (is : rest ≡ more ++ later) (left : Leaves old all now rest) where
    done_then : (result : Result (Unit {0}) LoadFault) (after : P) (read : Read) → Ok tt ≡ and_then read nothing_made → ComesTo due judge now more read new → Outcome due judge nothing_made new later result after → Outcome due judge nothing_made now (more ++ later) result after
    done_then result after (Ok values) is came out = record {
      read = joined (Ok values) out.read;
      came = came_then later new after out.read more now (Ok values) came out.came;
      made = out.made ∙ joined_made values out.read;
    }
    done_then result after (Err f) is came out = absurd (cc is)

    failed_then : (result : Result (Unit {0}) LoadFault) (f : LoadFault) (read : Read) → Err f ≡ and_then read nothing_made → result ≡ Err f → ComesTo due judge now more read new → Outcome due judge nothing_made now (more ++ later) result new
    failed_then result f (Ok values) is same came = absurd (cc is)
    failed_then result f (Err g) is same came = record { read = Err g; came = came_then later new new (Ok []) more now (Err g) came refl; made = same ∙ is }

    pub leaves_on : Outcome due judge nothing_made now more (Ok tt) new → Leaves old all new later
    leaves_on out result after then = left result after (leaves_all now rest (more ++ later) is result after (done_then result after out.read out.made out.came then))

    pub leaves_stop : (result : Result (Unit {0}) LoadFault) (f : LoadFault) → result ≡ Err f → Outcome due judge nothing_made now more (Err f) new → Outcome due judge nothing_made old all result new
    leaves_stop result f same out = left result new (leaves_all now rest (more ++ later) is result new (failed_then result f out.read out.made same out.came))
