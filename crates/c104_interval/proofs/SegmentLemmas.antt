-- What a list of just a table's separators says of the table's selection.
use Rattle.c104_interval.specs.Segments.{AreSegmentsBelow, IsConstantBetween, IsGreatestUpTo, IsSegmentStart, SelectsBySegment, limits}
use Rattle.c104_interval.specs.{Segments.separators, Selection.select_from, declared.intervals.{Row.Row, Select.Select, Table.Table}}
use Rattle.std.proofs.Common.{Bool, List, Some, [], add-one, ap, arith, cond, false, filter, inl, inr, map, nat_le, nat_lt, refl, slice_get}
use Rattle.std.proofs.{Common.{suc, sym, true, zero, ℕ, ◌&&◌, ◌<◌, ◌↔◌, ◌∙◌, ◌∷◌, ◌≡◌, ◌≤◌, ◌⊎◌}, lemmas.Bool.{Decides.nat_tests, cases_eq}}
use Rattle.std.proofs.lemmas.{Bool.{lt-ltb, ltb-true}, List.Elements.{All-contains, All-contains_itself, All-filter, filter_passes}}
use Rattle.std.specs.List.{Contains, Sorted.IsStrictlyIncreasing}

Contains-here : (x : ℕ) (xs : List ℕ) → Contains (x ∷ xs) x
Contains-here x xs = (zero, omega arith, refl)

Contains-later : (x : ℕ) (xs : List ℕ) (y : ℕ) → Contains xs y → Contains (x ∷ xs) y
Contains-later x xs y (k, below, is) = (suc k, omega arith, is)

Contains-cases : (x : ℕ) (xs : List ℕ) (y : ℕ) → Contains (x ∷ xs) y → (y ≡ x) ⊎ Contains xs y
Contains-cases x xs y (zero, below, is) = inl (sym is)
Contains-cases x xs y (suc k, below, is) = inr (k, omega arith, is)

Contains-kept : (x : ℕ) (xs : List ℕ) (y : ℕ) (b : Bool) → Contains xs y → Contains (cond b (x ∷ xs) xs) y
Contains-kept x xs y true here = Contains-later x xs y here
Contains-kept x xs y false here = here

Contains-filter : (p : ℕ → Bool) (xs : List ℕ) (y : ℕ) → p y ≡ true → Contains xs y → Contains (filter p xs) y
Contains-filter p [] y passes here = absurd (omega (arith, here.1))
Contains-filter p (x ∷ xs) y passes here =
    elim (Contains-cases x xs y here) [
      | inl same ↦ rw (ap p (sym same) ∙ passes) (rw same (Contains-here x (filter p xs)))
      | inr later ↦ Contains-kept x (filter p xs) y (p x) (Contains-filter p xs y passes later)
    ]

Contains-cases_or_not : (xs : List ℕ) (y : ℕ) → Contains xs y ⊎ (Contains xs y → ⊥)
Contains-cases_or_not [] y = inr (λ here. absurd (omega (arith, here.1)))
Contains-cases_or_not (x ∷ xs) y =
    elim (cases_eq y x) [
      | inl same ↦ inl (rw same (Contains-here x xs))
      | inr differs ↦ elim (Contains-cases_or_not xs y) [
        | inl later ↦ inl (Contains-later x xs y later)
        | inr none ↦ inr (λ here. elim (Contains-cases x xs y here) [ inl same ↦ differs same | inr later ↦ none later ])
      ]
    ]

IsGreatestUpTo-more : (gs : List ℕ) (h g : ℕ) → (Contains gs (suc h) → ⊥) → IsGreatestUpTo gs h g → IsGreatestUpTo gs (suc h) g
IsGreatestUpTo-more gs h g none is = record {
  is_one = is.is_one;
  not_above = omega (arith, is.not_above);
  is_greatest = λ s one low. elim (cases_eq s (suc h)) [
    | inl same ↦ absurd (none (rw same at one))
    | inr differs ↦ is.is_greatest s one (omega arith)
  ];
}

-- among numbers that have 0, one is the greatest that is not above h
greatest_up_to : (gs : List ℕ) → Contains gs 0 → (h : ℕ) → (g : ℕ) × IsGreatestUpTo gs h g
greatest_up_to gs has_zero zero = (zero, record { is_one = has_zero; not_above = omega arith; is_greatest = λ s one low. low })
greatest_up_to gs has_zero (suc h) =
    elim (Contains-cases_or_not gs (suc h)) [
      | inl one ↦ (suc h, record { is_one = one; not_above = omega arith; is_greatest = λ s other low. low })
      | inr none ↦ let below = greatest_up_to gs has_zero h in (below.0, IsGreatestUpTo-more gs h below.0 none below.1)
    ]

same_test : (g h low limit : ℕ) → g ≤ h → (low ≤ h → low ≤ g) → (limit ≤ h → limit ≤ g) → (nat_le low h && nat_lt h limit) ≡ (nat_le low g && nat_lt g limit)
same_test g h low limit up low_up limit_up = grind (arith, nat_tests)

-- headers with no base and no limit between them select alike
select_from-same : (g h low : ℕ) (rs : List Row) → g ≤ h → ((s : ℕ) → Contains (low ∷ map (λ r. r.limit) rs) s → s ≤ h → s ≤ g) → select_from low rs h ≡ select_from low rs g
select_from-same g h low [] up none = refl
select_from-same g h low (r ∷ rs) up none =
    let rest = map (λ (q : Row). q.limit) rs in
    let test = same_test g h low r.limit up (none low (Contains-here low (r.limit ∷ rest))) (none r.limit (Contains-later low (r.limit ∷ rest) r.limit (Contains-here r.limit rest))) in
    rw test (ap (λ (s : Select). cond (nat_le low g && nat_lt g r.limit) r.select s) (select_from-same g h r.limit rs up (λ s here. none s (Contains-later low (r.limit ∷ rest) s here))))

Contains-separators : (t : Table) (h : ℕ) → Contains (separators t) h ↔ IsSegmentStart t h
Contains-separators t h = (
  (λ here. elim (Contains-cases 0 (t.base ∷ limits t) h here) [ inl is ↦ inl is | inr later ↦ inr (Contains-cases t.base (limits t) h later) ]),
  (λ is. elim is [
    | inl zero_is ↦ rw zero_is (Contains-here 0 (t.base ∷ limits t))
    | inr other ↦ Contains-later 0 (t.base ∷ limits t) h (elim other [
      | inl base_is ↦ rw base_is (Contains-here t.base (limits t))
      | inr limit_is ↦ Contains-later t.base (limits t) h limit_is
    ])
  ]),
)

-- gs has what the filtered separators have
pub AreSegmentsBelow-from : (t : Table) (size : ℕ) (gs : List ℕ) → ((h : ℕ) → Contains gs h ↔ Contains (filter (λ s. nat_lt s size) (separators t)) h) → AreSegmentsBelow t size gs
AreSegmentsBelow-from t size gs same h =
    let below : ℕ → Bool = λ s. nat_lt s size in (
      (λ here.
          let kept = (same h).0 here in (
            ltb-true h size (All-contains (λ s. below s ≡ true) _ h (filter_passes below (separators t)) kept),
            (Contains-separators t h).0 (All-contains (Contains (separators t)) _ h (All-filter below (Contains (separators t)) (separators t) (All-contains_itself (separators t))) kept),
          )),
      (λ is. (same h).1 (Contains-filter below (separators t) h (lt-ltb h size is.0) ((Contains-separators t h).1 is.1))),
    )

pub IsConstantBetween-from : (t : Table) (size : ℕ) (gs : List ℕ) → AreSegmentsBelow t size gs → IsConstantBetween t size gs
IsConstantBetween-from t size gs are g h up below none =
    select_from-same g h t.base t.rows up (λ s here low. none s ((are s).1 (omega arith, inr (Contains-cases t.base (limits t) s here))) low)

pub SelectsBySegment-from : (t : Table) (size : ℕ) (gs : List ℕ) → 0 < size → AreSegmentsBelow t size gs → SelectsBySegment t size gs
SelectsBySegment-from t size gs some are h below =
    let found = greatest_up_to gs ((are 0).1 (some, inl refl)) h in
    (found.0, found.1, IsConstantBetween-from t size gs are found.0 h found.1.not_above below found.1.is_greatest)

starts_with_zero : (gs : List ℕ) → IsStrictlyIncreasing gs → Contains gs 0 → slice_get gs 0 ≡ Some 0
starts_with_zero [] up (k, below, is) = absurd (omega arith)
starts_with_zero (x ∷ xs) up (zero, below, is) = ap Some is
starts_with_zero (x ∷ xs) up (suc k, below, is) = let rises = rw add-one at (up k (omega arith)) in absurd (omega (arith, is))

pub starts_with_zero_from : (t : Table) (size : ℕ) (gs : List ℕ) → 0 < size → IsStrictlyIncreasing gs → AreSegmentsBelow t size gs → slice_get gs 0 ≡ Some 0
starts_with_zero_from t size gs some up are = starts_with_zero gs up ((are 0).1 (some, inl refl))
