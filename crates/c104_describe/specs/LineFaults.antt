-- The faults of a line, each by itself, over the line's parts. No condition rests on another, and their order says
-- nothing. Of all that is wrong with a line the fault of the least number is answered; a line without a fault adds
-- what its parts say.
use Rattle.c104_describe.specs.{PlanFaults.{PlanFaultKind, plan_fault_number}, PlanLines.{Draft, LineParts, is_bad_number, is_from_to}}
use Rattle.c104_describe.specs.PlanLines.{is_one_dot, keyword_parts, line_parts, names_port, number_said, port_link, port_name}
use Rattle.{c104_describe.specs.PlanWords.Keyword, c104_plan.specs.Plans.{Plan, is_linked, is_taken, last_link, switch_number}}
use Rattle.c104_plan.specs.{Plans.terminal_number, TextCut.{is_plain_line, line_words, uncommented_line}, TextWords.{dots, is_name}}
use Rattle.std.specs.{List.{find, list_any}, Prelude.{Bool, Err, IsTrue, List, MatchResult, None, Ok, Option, Result, Some, [], bytes_eq}}
use Rattle.std.specs.Prelude.{false, is_none, map, nat_lt, not, true, ℕ, ◌++◌, ◌<◌, ◌||◌, ◌∷◌, ◌≡◌}
use Rattle.c104_describe.specs.declared.faults.PlanFaultKind.TheVariants as kind

-- all numbers of a line, and the test of each
abbrev pub all_numbers : LineParts → List (Option (List ℕ) × (ℕ → Bool))
all_numbers parts = map (λ at. (Some (port_link at), is_from_to 0 last_link)) parts.ports ++ parts.numbers

-- all names of a line
abbrev pub all_names : LineParts → List (List ℕ)
all_names parts = parts.defined ++ (map port_name parts.ports ++ (parts.switches ++ parts.terminals))

-- the numbers of the switches and of the terminals that a line names, where there are such
abbrev pub used_numbers : Plan → LineParts → List (Option ℕ)
used_numbers plan parts =
    map (λ at. switch_number plan (port_name at)) parts.ports
    ++ (map (switch_number plan) parts.switches ++ map (terminal_number plan) parts.terminals)

-- whether a line of these parts has a fault, after the lines that gave the plan
abbrev pub is_fault_of : Plan → LineParts → PlanFaultKind → Bool
-- the first word is none with which lines begin
is_fault_of plan parts kind.UnknownWord = not parts.is_known
-- a wrong byte, a wrong count of words, a wrong fixed word, or a port without one dot
is_fault_of plan parts kind.BadShape = (not parts.is_plain || not parts.is_shaped) || list_any (λ at. not (is_one_dot (dots at))) parts.ports
-- a number isn't 1 to 7 digits, or is out of its range
is_fault_of plan parts kind.BadNumber = list_any (λ number. is_bad_number number.0 number.1) (all_numbers parts)
-- a name isn't one
is_fault_of plan parts kind.BadName = list_any (λ name. not (is_name name)) (all_names parts)
-- a name that is to be new is a switch's or a terminal's
is_fault_of plan parts kind.NameTaken = list_any (is_taken plan) parts.defined
-- the name in a port, or one that is to be a switch's, is no switch's, or one that is to be a terminal's isn't
is_fault_of plan parts kind.UnknownName = list_any is_none (used_numbers plan parts)
-- ports that are to be of two switches name the same one
is_fault_of plan parts kind.SelfWire = list_any (λ ends. bytes_eq (port_name ends.0) (port_name ends.1)) parts.joined
-- a link that is to have a terminal or a wire has one
is_fault_of plan parts kind.LinkTaken = list_any (names_port plan (is_linked plan)) parts.linked
-- there are more than there may be
is_fault_of plan parts kind.TooMany = list_any (λ count. nat_lt count.1 count.0) parts.counts
-- it was said before
is_fault_of plan parts kind.Twice = parts.is_said
-- it doesn't go with the lines before it
is_fault_of plan parts kind.MixedStyle = parts.is_mixed
-- no line has one of the others: a whole text is too long or not, and out of memory is no line's
is_fault_of plan parts kind.TooLong = false
is_fault_of plan parts kind.NoMemory = false

-- all faults, in the order of their numbers
abbrev pub all_faults : List PlanFaultKind
all_faults =
    kind.TooLong ∷ kind.UnknownWord ∷ kind.BadShape ∷ kind.BadNumber ∷ kind.BadName ∷ kind.NameTaken ∷ kind.UnknownName
    ∷ kind.SelfWire ∷ kind.LinkTaken ∷ kind.TooMany ∷ kind.Twice ∷ kind.MixedStyle ∷ kind.NoMemory ∷ []

-- a draft, or the fault that there is
abbrev pub unless : Option PlanFaultKind → Draft → Result Draft PlanFaultKind
unless None next = Ok next
unless (Some fault) next = Err fault

-- what a line of these parts gives: the first of its faults, or the draft after it
abbrev pub read_parts : Plan → LineParts → Result Draft PlanFaultKind
read_parts plan parts = unless (find (is_fault_of plan parts) all_faults) parts.next

-- the same by what its first word says and the words after it, but for whether it goes with the lines before
abbrev pub keyword_line : Draft → Keyword → List (List ℕ) → Result Draft PlanFaultKind
keyword_line draft keyword rest =
    read_parts draft.plan (record (keyword_parts draft keyword rest) { is_known = true; is_plain = true; is_mixed = false })

-- the same by its words; is_plain says that it has no byte that no line may have
abbrev pub read_plan_words : Draft → Bool → List (List ℕ) → Result Draft PlanFaultKind
read_plan_words draft is_plain words = read_parts draft.plan (line_parts draft is_plain words)

-- the draft after a line, or what is wrong with it
abbrev pub read_plan_line : Draft → List ℕ → Result Draft PlanFaultKind
read_plan_line draft line = read_plan_words draft (is_plain_line (uncommented_line line)) (line_words (uncommented_line line))

-- a number of a line was read, or it is a bad one; the other is meant where it is left out
abbrev pub ReadsNumber : Result ℕ PlanFaultKind → ℕ → Option (List ℕ) → (ℕ → Bool) → Type 0
ReadsNumber result other word test =
    MatchResult result (λ value. (number_said other word ≡ value) × (is_bad_number word test ≡ false))
    (λ fault. (fault ≡ kind.BadNumber) × (is_bad_number word test ≡ true))

-- whether a line has a fault, after the lines that gave the draft
abbrev pub has_fault : Draft → List ℕ → PlanFaultKind → Bool
has_fault draft line fault =
    is_fault_of draft.plan (line_parts draft (is_plain_line (uncommented_line line)) (line_words (uncommented_line line))) fault

-- a line has this fault, and none of a lesser number
pub record IsLeastFault (draft : Draft) (line : List ℕ) (fault : PlanFaultKind) : Type 0 where
  pub applies : IsTrue (has_fault draft line fault)
  pub no_lesser : (lesser : PlanFaultKind) → plan_fault_number lesser < plan_fault_number fault → has_fault draft line lesser ≡ false

-- a line has no fault
abbrev pub IsFaultless : Draft → List ℕ → Type 0
IsFaultless draft line = (fault : PlanFaultKind) → has_fault draft line fault ≡ false
