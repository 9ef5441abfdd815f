-- What the computing form selects is what the first row that covers the header selects.
use Rattle.c104_interval.specs.{Selection.{Covers, IsSelected, limit_before, select, select_from}, declared.intervals.Row.Row}
use Rattle.{c104_interval.specs.declared.intervals.{Select.Select, Table.Table}, std.proofs.Common.{Bool, List, [], arith, false}}
use Rattle.std.proofs.Common.{if◌then◌else◌, inl, inr, nat_le, nat_lt, refl, suc, true, zero, ℕ, ◌&&◌, ◌<◌, ◌∷◌, ◌≡◌, ◌≤◌}
use Rattle.std.proofs.lemmas.Bool.Decides.{nat_tests}

-- these rows, where the first begins at low
abbrev table : ℕ → List Row → Table
table low rows = record { base = low; rows = rows }

limit_before-cons : (low : ℕ) (r : Row) (rs : List Row) (k : ℕ) → limit_before (table low (r ∷ rs)) (suc k) ≡ limit_before (table r.limit rs) k
limit_before-cons low r rs zero = refl
limit_before-cons low r rs (suc k) = refl

Covers-cons : (low : ℕ) (r : Row) (rs : List Row) (k h : ℕ) → Covers (table r.limit rs) k h → Covers (table low (r ∷ rs)) (suc k) h
Covers-cons low r rs k h c = record { is_row = omega (arith, c.is_row); from_low = rw limit_before-cons c.from_low; below_limit = c.below_limit }

Covers-from_cons : (low : ℕ) (r : Row) (rs : List Row) (k h : ℕ) → Covers (table low (r ∷ rs)) (suc k) h → Covers (table r.limit rs) k h
Covers-from_cons low r rs k h c = record { is_row = omega (arith, c.is_row); from_low = rw limit_before-cons at c.from_low; below_limit = c.below_limit }

Covers-first : (low : ℕ) (r : Row) (rs : List Row) (h : ℕ) → true ≡ (nat_le low h && nat_lt h r.limit) → Covers (table low (r ∷ rs)) zero h
Covers-first low r rs h is = record { is_row = omega arith; from_low = grind (arith, nat_tests); below_limit = grind (arith, nat_tests) }

none_first : (low : ℕ) (r : Row) (rs : List Row) (h : ℕ) → false ≡ (nat_le low h && nat_lt h r.limit) → ¬ Covers (table low (r ∷ rs)) zero h
none_first low r rs h is c = let from : low ≤ h = c.from_low in let below : h < r.limit = c.below_limit in grind (arith, nat_tests)

none_after : (low : ℕ) (r : Row) (rs : List Row) (h : ℕ) → false ≡ (nat_le low h && nat_lt h r.limit) → (n : ℕ) → ((j : ℕ) → j < n → ¬ Covers (table r.limit rs) j h) → (j : ℕ) → j < suc n → ¬ Covers (table low (r ∷ rs)) j h
none_after low r rs h is n none zero below c = none_first low r rs h is c
none_after low r rs h is n none (suc j) below c = none j (omega arith) (Covers-from_cons low r rs j h c)

-- with the test of the first row as a variable
IsSelected-cons : (low : ℕ) (r : Row) (rs : List Row) (h : ℕ) (b : Bool) → b ≡ (nat_le low h && nat_lt h r.limit) → (s : Select) → IsSelected (table r.limit rs) h s → IsSelected (table low (r ∷ rs)) h (if b then r.select else s)
IsSelected-cons low r rs h true is s rest = inl (zero, record { covers = Covers-first low r rs h is; none_lower = λ j below. absurd (omega arith) }, refl)
IsSelected-cons low r rs h false is s (inl found) = inl (suc found.0, record { covers = Covers-cons low r rs found.0 h found.1.covers; none_lower = none_after low r rs h is found.0 found.1.none_lower }, found.2)
IsSelected-cons low r rs h false is s (inr none) = inr ((λ k c. none_after low r rs h is (suc k) (λ j below. none.0 j) k (omega arith) c), none.1)

pub IsSelected-select_from : (low : ℕ) (rs : List Row) (h : ℕ) → IsSelected (table low rs) h (select_from low rs h)
IsSelected-select_from low [] h = inr ((λ k c. absurd (omega (arith, c.is_row))), refl)
IsSelected-select_from low (r ∷ rs) h = IsSelected-cons low r rs h (nat_le low h && nat_lt h r.limit) refl _ (IsSelected-select_from r.limit rs h)

pub IsSelected-from : (t : Table) (h : ℕ) (s : Select) → s ≡ select t h → IsSelected t h s
IsSelected-from t h s is = rw is (IsSelected-select_from t.base t.rows h)
