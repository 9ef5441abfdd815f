-- The first of all faults that applies, in the order of their numbers, has the least number: so of a line the least fault is told.
use Rattle.c104_describe.specs.LineFaults.{IsFaultless, IsLeastFault, all_faults, has_fault, is_fault_of, read_parts, read_plan_line}
use Rattle.c104_describe.specs.{LineFaults.unless, PlanFaults.{PlanFaultKind, plan_fault_number}, PlanLines.{Draft, LineParts}}
use Rattle.{c104_plan.specs.Plans.Plan, std.proofs.Common.{Bool, Err, List, None, Ok, Option, Some, [], ap, arith, false, if◌then◌else◌}}
use Rattle.std.proofs.{Common.{refl, slice_index_or, suc, sym, true, ℕ, ◌-◌, ◌<◌, ◌∙◌, ◌∷◌, ◌≡◌, ◌≤◌}, lemmas.Bool.cases_eq}
use Rattle.std.specs.List.{find}

-- the fault of a number
fault_numbered : ℕ → PlanFaultKind
fault_numbered number = slice_index_or all_faults (number - 1) PlanFaultKind.TooLong

is_numbered : (fault : PlanFaultKind) → fault_numbered (plan_fault_number fault) ≡ fault
unfolding fault_numbered
is_numbered fault = search (arith, fault_numbered)

same_number : (fault other : PlanFaultKind) → plan_fault_number fault ≡ plan_fault_number other → fault ≡ other
same_number fault other same = sym (is_numbered fault) ∙ ap fault_numbered same ∙ is_numbered other

number-range : (fault : PlanFaultKind) → (1 ≤ plan_fault_number fault) × (plan_fault_number fault < 14)
number-range fault = search arith

-- the numbers of these go up from the first one's, to the last of all
abbrev AreNumbered : ℕ → List PlanFaultKind → Type 0
AreNumbered n [] = n ≡ 14
AreNumbered n (fault ∷ faults) = (plan_fault_number fault ≡ n) × AreNumbered (suc n) faults

-- the number of a fault, and without one a number above all
abbrev until : Option PlanFaultKind → ℕ
until None = 14
until (Some fault) = plan_fault_number fault

lesser-first : (has : PlanFaultKind → Bool) (n : ℕ) (fault : PlanFaultKind) (rest : Option PlanFaultKind) (other : PlanFaultKind) (b : Bool) → has fault ≡ b → plan_fault_number fault ≡ n → n ≤ plan_fault_number other
    → plan_fault_number other < until (if b then Some fault else rest) → (suc n ≤ plan_fault_number other → plan_fault_number other < until rest → has other ≡ false) → has other ≡ false
lesser-first has n fault rest other b is here above under go = search (arith, cases_eq, same_number)

lesser : (has : PlanFaultKind → Bool) (n : ℕ) (faults : List PlanFaultKind) → AreNumbered n faults → (other : PlanFaultKind) → n ≤ plan_fault_number other → plan_fault_number other < until (find has faults) → has other ≡ false
lesser has n [] end other above under = absurd (omega (arith, end, above, (number-range other).1))
lesser has n (fault ∷ faults) numbers other above under =
    lesser-first has n fault (find has faults) other (has fault) refl numbers.0 above under (λ further below. lesser has (suc n) faults numbers.1 other further below)

all_numbered : AreNumbered 1 all_faults
all_numbered = (refl, (refl, (refl, (refl, (refl, (refl, (refl, (refl, (refl, (refl, (refl, (refl, (refl, refl)))))))))))))

-- none below the first one that applies
none_lesser : (has : PlanFaultKind → Bool) (fault : PlanFaultKind) → find has all_faults ≡ Some fault → (other : PlanFaultKind) → plan_fault_number other < plan_fault_number fault → has other ≡ false
none_lesser has fault is other under = lesser has 1 all_faults all_numbered other (number-range other).0 (rw is under)

-- none at all where there is no first one
none_at_all : (has : PlanFaultKind → Bool) → find has all_faults ≡ None → (other : PlanFaultKind) → has other ≡ false
none_at_all has is other = lesser has 1 all_faults all_numbered other (number-range other).0 (rw is ((number-range other).1))

applies-first : (has : PlanFaultKind → Bool) (fault found : PlanFaultKind) (rest : Option PlanFaultKind) (b : Bool) → has fault ≡ b → (if b then Some fault else rest) ≡ Some found → (rest ≡ Some found → has found ≡ true) → has found ≡ true
applies-first has fault found rest b is here go = search arith

-- the first one that applies does
applies : (has : PlanFaultKind → Bool) (faults : List PlanFaultKind) (found : PlanFaultKind) → find has faults ≡ Some found → has found ≡ true
applies has [] found is = cc
applies has (fault ∷ faults) found is = applies-first has fault found (find has faults) (has fault) refl is (λ here. applies has faults found here)

-- Of a line

-- there was no fault
pub made : (o : Option PlanFaultKind) (after next : Draft) → unless o after ≡ Ok next → (o ≡ None) × (after ≡ next)
made o after next is = search arith

-- there was this one
pub told : (o : Option PlanFaultKind) (after : Draft) (fault : PlanFaultKind) → unless o after ≡ Err fault → o ≡ Some fault
told o after fault is = search arith

-- parts that were read have no fault
pub sound : (plan : Plan) (parts : LineParts) (next : Draft) → read_parts plan parts ≡ Ok next → (fault : PlanFaultKind) → is_fault_of plan parts fault ≡ false
sound plan parts next is = none_at_all (is_fault_of plan parts) (made (find (is_fault_of plan parts) all_faults) parts.next next is).0

pub least_fault : (draft : Draft) (line : List ℕ) (fault : PlanFaultKind) → read_plan_line draft line ≡ Err fault → IsLeastFault draft line fault
least_fault draft line fault is =
    let first : find (has_fault draft line) all_faults ≡ Some fault = told (find (has_fault draft line) all_faults) _ fault is in
    record { applies = applies (has_fault draft line) all_faults fault first; no_lesser = none_lesser (has_fault draft line) fault first }

pub faultless : (draft : Draft) (line : List ℕ) (next : Draft) → read_plan_line draft line ≡ Ok next → IsFaultless draft line
faultless draft line next is = none_at_all (has_fault draft line) (made (find (has_fault draft line) all_faults) _ next is).0
