-- Descriptions: lines in order, up to the first faulty one.
use Rattle.c104_describe.specs.{LineFaults.{IsFaultless, IsLeastFault, read_plan_line}, PlanDrafts.{draft_of, finished}}
use Rattle.c104_describe.specs.{PlanFaults.{PlanFault, PlanFaultKind, fault_at, no_memory}, PlanLines.Draft, SharedTables.nothing_shared}
use Rattle.c104_describe.specs.declared.{drafts.Draft.Draft as Kept, faults.PlanFaultKind.TheVariants.{NoMemory, TooLong}}
use Rattle.c104_plan.specs.{PlanParts.empty_plan, Plans.Plan, TextCut.{lines, most_bytes}}
use Rattle.std.specs.Prelude.{Err, List, MatchResult, None, Ok, Result, Some, [], false, if◌then◌else◌, length, nat_le, slice_get, take, ℕ}
use Rattle.std.specs.Prelude.{◌+◌, ◌<◌, ◌∷◌, ◌≡◌, ◌≤◌, ◌⊎◌}

-- what comes after the line of this number, or its fault
abbrev pub draft_after_line : ℕ → Result Draft PlanFaultKind → (Draft → Result Draft PlanFault) → Result Draft PlanFault
draft_after_line line (Ok draft) rest = rest draft
draft_after_line line (Err kind) rest = Err (fault_at line kind)

-- the draft after these lines, of which the first has this number, or the first faulty line and its fault
abbrev pub read_plan_lines : ℕ → List (List ℕ) → Draft → Result Draft PlanFault
read_plan_lines line [] draft = Ok draft
read_plan_lines line (text ∷ more) draft =
    draft_after_line line (read_plan_line draft text) (λ next. read_plan_lines (line + 1) more next)

-- the draft of no line
abbrev pub empty_draft : Draft
empty_draft = record {
  plan = empty_plan;
  shared = nothing_shared;
  header_said = false;
  buffer_said = false;
  from_said = false;
  labels = None;
}

-- the plan of a draft
abbrev pub plan_of_draft : Result Draft PlanFault → Result Plan PlanFault
plan_of_draft (Ok draft) = Ok (finished draft)
plan_of_draft (Err fault) = Err fault

-- the plan that a description gives, or its fault
abbrev pub read_description : List ℕ → Result Plan PlanFault
read_description text =
    if nat_le (length text) most_bytes then plan_of_draft (read_plan_lines 1 (lines text) empty_draft)
    else Err (fault_at 0 TooLong)

-- the plan is the one that is due, and where none is due the fault is; or it is out of memory
abbrev pub GivesPlanOrNoMemory : Result Plan PlanFault → Result Plan PlanFault → Type 0
GivesPlanOrNoMemory result due = (result ≡ due) ⊎ (result ≡ Err no_memory)

-- the same of one line, which made this of what was read before
abbrev pub ReadsLine : {X Y : Type 0} → Result X PlanFaultKind → Y → Result Y PlanFaultKind → Type 0
ReadsLine result made due =
    MatchResult result (λ _. due ≡ Ok made) (λ kind. (due ≡ Err kind) ⊎ (kind ≡ NoMemory))

-- the line at a place among others, where it has no fault after those before it
pub record IsFaultlessAt (list : List (List ℕ)) (place : ℕ) (line : List ℕ) : Type 0 where
  -- what those before it give
  pub before : Draft
  pub before_it : read_plan_lines 1 (take place list) empty_draft ≡ Ok before
  pub is_faultless : IsFaultless before line

-- lines of which none has a fault after those before it
abbrev pub AreFaultless : List (List ℕ) → Type 0
AreFaultless list = (place : ℕ) (line : List ℕ) → slice_get list place ≡ Some line → IsFaultlessAt list place line

-- a line is the first faulty one of a text that isn't too long: those before it have no fault, one after
-- another, and give a draft; and after that it has this fault, and none of a lesser number
pub record IsFirstFault (text : List ℕ) (fault : PlanFault) : Type 0 where
  -- how many lines come before it
  pub place : ℕ
  pub line : List ℕ
  pub kind : PlanFaultKind
  pub before : Draft
  pub is_short : length text ≤ most_bytes
  pub is_line : slice_get (lines text) place ≡ Some line
  pub before_it : read_plan_lines 1 (take place (lines text)) empty_draft ≡ Ok before
  pub are_faultless : AreFaultless (take place (lines text))
  pub is_faulty : read_plan_line before line ≡ Err kind
  pub is_least : IsLeastFault before line kind
  pub is_told : fault ≡ fault_at (place + 1) kind

-- a text that is too long, whatever its lines say
pub record IsTooLong (text : List ℕ) (fault : PlanFault) : Type 0 where
  pub is_long : most_bytes < length text
  pub is_told : fault ≡ fault_at 0 TooLong

-- why a description may be refused
abbrev pub IsDue : List ℕ → PlanFault → Type 0
IsDue text fault = (fault ≡ no_memory) ⊎ (IsTooLong text fault ⊎ IsFirstFault text fault)

-- the same as GivesPlanOrNoMemory of the draft as it is kept
abbrev pub GivesDraftOrNoMemory : Result Kept PlanFault → Result Draft PlanFault → Type 0
GivesDraftOrNoMemory result due =
    MatchResult result (λ kept. due ≡ Ok (draft_of kept)) (λ fault. (due ≡ Err fault) ⊎ (fault ≡ no_memory))

-- the same of lines, which made this of what was read before
abbrev pub ReadsLines : {X : Type 0} → Result X PlanFault → Draft → Result Draft PlanFault → Type 0
ReadsLines result made due =
    MatchResult result (λ _. due ≡ Ok made) (λ fault. (due ≡ Err fault) ⊎ (fault ≡ no_memory))
