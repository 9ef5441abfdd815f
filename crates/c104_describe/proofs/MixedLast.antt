-- A line's own faults come before that it doesn't go with the lines before it.
use Rattle.c104_describe.specs.{LineFaults.{is_fault_of, keyword_line, read_parts, unless}, PlanDrafts.is_mixed, PlanFaults.PlanFaultKind}
use Rattle.c104_describe.specs.{PlanLines.{Draft, LineParts, first_word_parts, keyword_parts}, PlanWords.Keyword}
use Rattle.{c104_plan.specs.Plans.Plan, std.proofs.Common.{Bool, Err, List, None, Ok, Option, Result, Some, [], ap, arith, false}}
use Rattle.std.{proofs.Common.{if◌then◌else◌, refl, sym, true, ℕ, ◌++◌, ◌∙◌, ◌∷◌, ◌≡◌, ◌⊎◌}, specs.List.find}

-- those of a line by itself
own_faults : List PlanFaultKind
own_faults =
    PlanFaultKind.TooLong ∷ PlanFaultKind.UnknownWord ∷ PlanFaultKind.BadShape ∷ PlanFaultKind.BadNumber ∷ PlanFaultKind.BadName ∷ PlanFaultKind.NameTaken ∷ PlanFaultKind.UnknownName
    ∷ PlanFaultKind.SelfWire ∷ PlanFaultKind.LinkTaken ∷ PlanFaultKind.TooMany ∷ PlanFaultKind.Twice ∷ []

-- the first, and the second where there is no first
first_of : Option PlanFaultKind → Option PlanFaultKind → Option PlanFaultKind
first_of None other = other
first_of (Some fault) other = Some fault

found_in : (has : PlanFaultKind → Bool) (xs ys : List PlanFaultKind) → find has (xs ++ ys) ≡ first_of (find has xs) (find has ys)
unfolding first_of
found_in has [] ys = refl
found_in has (x ∷ xs) ys = by_test (has x) (found_in has xs ys)
  where
    by_test : (b : Bool) → find has (xs ++ ys) ≡ first_of (find has xs) (find has ys) → (if b then Some x else find has (xs ++ ys)) ≡ first_of (if b then Some x else find has xs) (find has ys)
    by_test b rest = search arith

-- what the line gave by itself, and then whether it goes with the others
then_mixed : Bool → Result Draft PlanFaultKind → Result Draft PlanFaultKind
then_mixed mixed (Ok next) = if mixed then Err PlanFaultKind.MixedStyle else Ok next
then_mixed mixed (Err fault) = Err fault

by_own : (own : Option PlanFaultKind) (mixed : Bool) (next : Draft) → unless (first_of own (if mixed then Some PlanFaultKind.MixedStyle else None)) next ≡ then_mixed mixed (unless (first_of own None) next)
unfolding first_of then_mixed
by_own own mixed next = search (arith, first_of, then_mixed)

last : (plan : Plan) (parts : LineParts) (mixed : Bool) → read_parts plan (record parts { is_mixed = mixed }) ≡ then_mixed mixed (read_parts plan (record parts { is_mixed = false }))
unfolding own_faults
last plan parts mixed =
    let at = λ (m : Bool). is_fault_of plan (record parts { is_mixed = m }) in
    let behind = PlanFaultKind.MixedStyle ∷ PlanFaultKind.NoMemory ∷ [] in
    let own : Option PlanFaultKind = find (at false) own_faults in
    ap (λ o. unless o parts.next) (found_in (at mixed) own_faults behind)
    ∙ by_own own mixed parts.next
    ∙ ap (λ o. then_mixed mixed (unless o parts.next)) (sym (found_in (at false) own_faults behind))

module _ (plan : Plan) (parts : LineParts) (mixed : Bool) where
  own_fault : (fault : PlanFaultKind) → read_parts plan (record parts { is_mixed = false }) ≡ Err fault → read_parts plan (record parts { is_mixed = mixed }) ≡ Err fault
  unfolding then_mixed
  own_fault fault is = last plan parts mixed ∙ ap (then_mixed mixed) is

  is_last : (next : Draft) → read_parts plan (record parts { is_mixed = false }) ≡ Ok next → read_parts plan (record parts { is_mixed = mixed }) ≡ (if mixed then Err PlanFaultKind.MixedStyle else Ok next)
  unfolding then_mixed
  is_last next is = last plan parts mixed ∙ ap (then_mixed mixed) is

-- a line whose first word is known, by what it gives but for whether it goes with the lines before
module _ (draft : Draft) (k : Keyword) (rest : List (List ℕ)) where
  abbrev parts : LineParts
  parts = record (keyword_parts draft k rest) { is_known = true; is_plain = true }

  abbrev pub known_line : Result Draft PlanFaultKind
  known_line = read_parts draft.plan (record (first_word_parts draft (Some k) rest) { is_plain = true })

  known_fault : (fault : PlanFaultKind) → keyword_line draft k rest ≡ Err fault → known_line ≡ Err fault
  known_fault fault is = own_fault draft.plan parts (is_mixed draft k rest) fault is

  pub known_or_memory : (fault : PlanFaultKind) → (keyword_line draft k rest ≡ Err fault) ⊎ (fault ≡ PlanFaultKind.NoMemory) → (known_line ≡ Err fault) ⊎ (fault ≡ PlanFaultKind.NoMemory)
  known_or_memory fault known = search (arith, known_fault)

  pub known_mixed : (next : Draft) → is_mixed draft k rest ≡ true → keyword_line draft k rest ≡ Ok next → known_line ≡ Err PlanFaultKind.MixedStyle
  known_mixed next mixed is = is_last draft.plan parts (is_mixed draft k rest) next is ∙ (λ i. if mixed i then Err PlanFaultKind.MixedStyle else Ok next)
