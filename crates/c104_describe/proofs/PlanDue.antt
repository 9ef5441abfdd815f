-- A refusal is of the first faulty line, and a plan is of lines without a fault.
use Rattle.c104_describe.{proofs.FaultOrder.{faultless, least_fault}, specs.{LineFaults.{IsFaultless, read_plan_line}, PlanDrafts.finished}}
use Rattle.c104_describe.specs.{PlanFaults.{PlanFault, PlanFaultKind, fault_at}, PlanLines.Draft, PlanText.AreFaultless}
use Rattle.c104_describe.specs.PlanText.{GivesPlanOrNoMemory, IsDue, IsFirstFault, draft_after_line, empty_draft, plan_of_draft}
use Rattle.c104_describe.specs.{PlanText.{read_description, read_plan_lines}, declared.faults.PlanFaultKind.TheVariants.TooLong}
use Rattle.{c104_plan.specs.{Plans.Plan, TextCut.{lines, most_bytes}}, std.proofs.Common.{Bool, Err, List, Ok, Result, Some, [], ap, arith}}
use Rattle.std.proofs.Common.{if◌then◌else◌, length, nat_le, refl, slice_get, subst, suc, sym, take, true, zero, ℕ, ◌+◌, ◌∙◌, ◌∷◌, ◌≡◌, ◌≤◌}
use Rattle.std.{proofs.lemmas.Bool.Decides.nat_tests, specs.Result.IfErr}

-- the first faulty line among some, of which the first has this number
record Found (n : ℕ) (list : List (List ℕ)) (draft : Draft) (fault : PlanFault) : Type 0 where
  place : ℕ
  line : List ℕ
  kind : PlanFaultKind
  before : Draft
  is_line : slice_get list place ≡ Some line
  before_it : read_plan_lines n (take place list) draft ≡ Ok before
  is_faulty : read_plan_line before line ≡ Err kind
  is_told : fault ≡ fault_at (n + place) kind

-- by what the first of them says
found-first : (n : ℕ) (line : List ℕ) (more : List (List ℕ)) (draft : Draft) (fault : PlanFault) (said : Result Draft PlanFaultKind) → read_plan_line draft line ≡ said
    → draft_after_line n said (λ next. read_plan_lines (n + 1) more next) ≡ Err fault → ((next : Draft) → read_plan_lines (n + 1) more next ≡ Err fault → Found (n + 1) more next fault) → Found n (line ∷ more) draft fault
found-first n line more draft fault (Err kind) is here go = record {
  place = zero;
  line = line;
  kind = kind;
  before = draft;
  is_line = refl;
  before_it = refl;
  is_faulty = is;
  is_told = let told : fault_at n kind ≡ fault = cc in sym told ∙ ap (λ k. fault_at k kind) (omega arith);
}
found-first n line more draft fault (Ok next) is here go =
    let rest : Found (n + 1) more next fault = go next here in
    record {
      place = suc rest.place;
      line = rest.line;
      kind = rest.kind;
      before = rest.before;
      is_line = rest.is_line;
      before_it = ap (λ said. draft_after_line n said (λ p. read_plan_lines (n + 1) (take rest.place more) p)) is ∙ rest.before_it;
      is_faulty = rest.is_faulty;
      is_told = rest.is_told ∙ ap (λ k. fault_at k rest.kind) (omega arith);
    }

found : (n : ℕ) (list : List (List ℕ)) (draft : Draft) (fault : PlanFault) → read_plan_lines n list draft ≡ Err fault → Found n list draft fault
found n [] draft fault is = cc
found n (line ∷ more) draft fault is = found-first n line more draft fault (read_plan_line draft line) refl is (λ next rest. found (n + 1) more next fault rest)

-- the line at a place of lines that were read, of which the first has this number
record FaultlessAt (n : ℕ) (list : List (List ℕ)) (draft : Draft) (place : ℕ) (line : List ℕ) : Type 0 where
  before : Draft
  before_it : read_plan_lines n (take place list) draft ≡ Ok before
  is_faultless : IsFaultless before line

after_first : (n : ℕ) (first : List ℕ) (more : List (List ℕ)) (draft last : Draft) (said : Result Draft PlanFaultKind) → read_plan_line draft first ≡ said
    → draft_after_line n said (λ next. read_plan_lines (n + 1) more next) ≡ Ok last → (place : ℕ) (line : List ℕ)
    → ((next : Draft) → read_plan_lines (n + 1) more next ≡ Ok last → FaultlessAt (n + 1) more next place line) → FaultlessAt n (first ∷ more) draft (suc place) line
after_first n first more draft last said is here place line go = search arith

at_first : (n : ℕ) (first : List ℕ) (more : List (List ℕ)) (draft last : Draft) (said : Result Draft PlanFaultKind) → read_plan_line draft first ≡ said
    → draft_after_line n said (λ next. read_plan_lines (n + 1) more next) ≡ Ok last → IsFaultless draft first
at_first n first more draft last (Ok next) is here = faultless draft first next is
at_first n first more draft last (Err kind) is here = cc

faultless_at : (n : ℕ) (list : List (List ℕ)) (draft last : Draft) → read_plan_lines n list draft ≡ Ok last → (place : ℕ) (line : List ℕ) → slice_get list place ≡ Some line → FaultlessAt n list draft place line
faultless_at n [] draft last is place line here = cc
faultless_at n (first ∷ more) draft last is zero line here = record {
  before = draft;
  before_it = refl;
  is_faultless = let same : first ≡ line = cc in subst (IsFaultless draft) same (at_first n first more draft last (read_plan_line draft first) refl is);
}
faultless_at n (first ∷ more) draft last is (suc place) line here =
    after_first n first more draft last (read_plan_line draft first) refl is place line (λ next rest. faultless_at (n + 1) more next last rest place line here)

-- of lines that were read none has a fault
pub faultless_lines : (list : List (List ℕ)) (last : Draft) → read_plan_lines 1 list empty_draft ≡ Ok last → AreFaultless list
faultless_lines list last is place line here =
    let at = faultless_at 1 list empty_draft last is place line here in
    record { before = at.before; before_it = at.before_it; is_faultless = at.is_faultless }

first_fault : (text : List ℕ) (fault : PlanFault) → length text ≤ most_bytes → read_plan_lines 1 (lines text) empty_draft ≡ Err fault → IsFirstFault text fault
first_fault text fault short is =
    let f : Found 1 (lines text) empty_draft fault = found 1 (lines text) empty_draft fault is in
    record {
      place = f.place;
      line = f.line;
      kind = f.kind;
      before = f.before;
      is_short = short;
      is_line = f.is_line;
      before_it = f.before_it;
      are_faultless = faultless_lines (take f.place (lines text)) f.before f.before_it;
      is_faulty = f.is_faulty;
      is_least = least_fault f.before f.line f.kind f.is_faulty;
      is_told = f.is_told ∙ ap (λ k. fault_at k f.kind) (omega arith);
    }

fault_of_draft : (made : Result Draft PlanFault) (fault : PlanFault) → plan_of_draft made ≡ Err fault → made ≡ Err fault
fault_of_draft made fault is = search arith

due_by : (text : List ℕ) (fault : PlanFault) (short : Bool) → nat_le (length text) most_bytes ≡ short → (if short then plan_of_draft (read_plan_lines 1 (lines text) empty_draft) else Err (fault_at 0 TooLong)) ≡ Err fault → IsDue text fault
due_by text fault short is here = search (arith, first_fault, nat_tests, fault_of_draft)

pub due : (text : List ℕ) (result : Result Plan PlanFault) → GivesPlanOrNoMemory result (read_description text) → IfErr result (IsDue text)
due text result gives = search (arith, due_by)

-- the plan of lines that were all read
pub given_plan : (text : List ℕ) (draft : Draft) → length text ≤ most_bytes → read_plan_lines 1 (lines text) empty_draft ≡ Ok draft → read_description text ≡ Ok (finished draft)
given_plan text draft short is = let fits : nat_le (length text) most_bytes ≡ true = grind (arith, nat_tests) in rw (fits, is) refl
