-- Entries by address: of a function that gives some addresses a value, the values that it gives the
-- addresses of a range, each with its address.
use Rattle.std.proofs.Common.{All, List, None, Option, Some, [], ap, arith, inl, inr, option_map, refl, subst, suc, zero, ℕ, ◌++◌, ◌+◌, ◌<◌}
use Rattle.std.proofs.{Common.{◌∙◌, ◌∷◌, ◌≡◌, ◌≤◌, ◌⊎◌}, lemmas.{Bool.cases_eq, List.Elements.{All-cons, All-nil, All-weaker}}}
use Rattle.std.proofs.lemmas.List.{Elements.{Contains-append_cases, Contains-append_right, filter_map-append}, Kept.AllPairs-cons}
use Rattle.std.specs.List.{AllPairs, Contains, cons_option, filter_map, range_with_len}

-- a value with its address
abbrev pub entry : (ℕ → Option ℕ) → ℕ → Option (ℕ × ℕ)
entry f a = option_map (λ v. (a, v)) (f a)

-- the values of n addresses from a on
abbrev pub entries : (ℕ → Option ℕ) → ℕ → ℕ → List (ℕ × ℕ)
entries f a n = filter_map (entry f) (range_with_len a n)

-- an entry of one of n addresses from a on
abbrev pub IsWithin : ℕ → ℕ → ℕ × ℕ → Type 0
IsWithin a n x = (a ≤ x.0) × (x.0 < a + n)

-- the addresses of a range, cut in two
range_cut : (a n m : ℕ) → range_with_len a (n + m) ≡ range_with_len a n ++ range_with_len (a + n) m
range_cut a zero m = search arith
range_cut a (suc n) m =
    let more : suc n + m ≡ suc (n + m) = omega arith in
    let on : a + 1 + n ≡ a + suc n = omega arith in
    ap (range_with_len a) more ∙ ap (λ xs. a ∷ xs) (range_cut (a + 1) n m ∙ ap (λ b. range_with_len (a + 1) n ++ range_with_len b m) on)

module _ (f : ℕ → Option ℕ) where
  -- those of an address and those after it
  abbrev led : ℕ → Option ℕ → List (ℕ × ℕ) → List (ℕ × ℕ)
  led a o rest = cons_option (option_map (λ v. (a, v)) o) rest

  pub entries_cut : (a n m : ℕ) → entries f a (n + m) ≡ entries f a n ++ entries f (a + n) m
  entries_cut a n m = ap (filter_map (entry f)) (range_cut a n m) ∙ filter_map-append (entry f) (range_with_len a n) (range_with_len (a + n) m)

  -- those of the addresses before one, its own, and those after it
  pub entries_around : (a n end : ℕ) → a + 1 + n ≡ end → entries f 0 end ≡ entries f 0 a ++ led a (f a) (entries f (a + 1) n)
  entries_around a n end is =
      let whole : end ≡ a + suc n = omega (arith, is) in
      let from : 0 + a ≡ a = omega arith in
      ap (entries f 0) whole ∙ entries_cut 0 a (suc n) ∙ ap (λ b. entries f 0 a ++ entries f b (suc n)) from

  pub entries_more : (n : ℕ) → entries f 0 (n + 1) ≡ entries f 0 n ++ led n (f n) []
  entries_more n = entries_around n 0 (n + 1) (omega arith)

  later : (a n : ℕ) → All (IsWithin (a + 1) n) (entries f (a + 1) n) → All (IsWithin a (suc n)) (entries f (a + 1) n)
  later a n rest = All-weaker (IsWithin (a + 1) n) (IsWithin a (suc n)) (λ x is. (omega (arith, is.0), omega (arith, is.1))) (entries f (a + 1) n) rest

  within_led : (a n : ℕ) (o : Option ℕ) → All (IsWithin a (suc n)) (entries f (a + 1) n) → All (IsWithin a (suc n)) (led a o (entries f (a + 1) n))
  within_led a n o rest = search (arith, All-cons)

  pub within : (a n : ℕ) → All (IsWithin a n) (entries f a n)
  within a zero = All-nil (IsWithin a zero)
  within a (suc n) = within_led a n (f a) (later a n (within (a + 1) n))

  ascending_led : (a n : ℕ) (o : Option ℕ) → AllPairs (λ x y. x.0 < y.0) (entries f (a + 1) n) → AllPairs (λ x y. x.0 < y.0) (led a o (entries f (a + 1) n))
  ascending_led a n o rest = search (arith, AllPairs-cons, All-weaker, within)

  pub ascending : (a n : ℕ) → AllPairs (λ x y. x.0 < y.0) (entries f a n)
  ascending a zero = λ i j d before inside. absurd (omega arith)
  ascending a (suc n) = ascending_led a n (f a) (ascending (a + 1) n)

  -- what is among them is what the function gives
  value_led : (a n c v : ℕ) (o : Option ℕ) → o ≡ f a → Contains {X = ℕ × ℕ} (led a o (entries f (a + 1) n)) (c, v) → (f c ≡ Some v) ⊎ Contains {X = ℕ × ℕ} (entries f (a + 1) n) (c, v)
  value_led a n c v o is has = search (arith, Contains-append_cases)

  pub entry_value : (a n c v : ℕ) → Contains {X = ℕ × ℕ} (entries f a n) (c, v) → f c ≡ Some v
  entry_value a zero c v has = absurd (omega (arith, has.1))
  entry_value a (suc n) c v has = elim (value_led a n c v (f a) refl has) [
    | inl is ↦ is
    | inr rest ↦ entry_value (a + 1) n c v rest
  ]

  -- and all of that is among them
  has_first : (a n v : ℕ) (o : Option ℕ) → o ≡ Some v → Contains {X = ℕ × ℕ} (led a o (entries f (a + 1) n)) (a, v)
  has_first a n v o is = search arith

  has_later : (a n c v : ℕ) (o : Option ℕ) → Contains {X = ℕ × ℕ} (entries f (a + 1) n) (c, v) → Contains {X = ℕ × ℕ} (led a o (entries f (a + 1) n)) (c, v)
  has_later a n c v None rest = rest
  has_later a n c v (Some w) rest = Contains-append_right {X = ℕ × ℕ} ((a, w) ∷ []) (entries f (a + 1) n) (c, v) rest

  pub entry_has : (a n c v : ℕ) → f c ≡ Some v → a ≤ c → c < a + n → Contains {X = ℕ × ℕ} (entries f a n) (c, v)
  entry_has a zero c v is from below = absurd (omega arith)
  entry_has a (suc n) c v is from below = elim (cases_eq a c) [
    | inl here ↦ subst (λ d. Contains {X = ℕ × ℕ} (entries f a (suc n)) (d, v)) here (has_first a n v (f a) (ap f here ∙ is))
    | inr differs ↦ has_later a n c v (f a) (entry_has (a + 1) n c v is (omega arith) (omega arith))
  ]

  -- where the function gives nothing, there are none
  pub entries_none : ((c : ℕ) → f c ≡ None) → (a n : ℕ) → entries f a n ≡ []
  entries_none none a zero = refl
  entries_none none a (suc n) = ap (λ o. led a o (entries f (a + 1) n)) (none a) ∙ entries_none none (a + 1) n

  -- nor of a range where it gives nothing there
  pub entries_none_in : (a n : ℕ) → ((c : ℕ) → a ≤ c → c < a + n → f c ≡ None) → entries f a n ≡ []
  entries_none_in a zero none = refl
  entries_none_in a (suc n) none = ap (λ o. led a o (entries f (a + 1) n)) (none a (omega arith) (omega arith)) ∙ entries_none_in (a + 1) n (λ c above below. none c (omega arith) (omega arith))

-- those of a range hang on the addresses of the range alone
pub entries_same : (f g : ℕ → Option ℕ) (a n : ℕ) → ((c : ℕ) → a ≤ c → c < a + n → f c ≡ g c) → entries f a n ≡ entries g a n
entries_same f g a zero same = refl
entries_same f g a (suc n) same =
    ap (λ o. led f a o (entries f (a + 1) n)) (same a (omega arith) (omega arith))
    ∙ ap (λ rest. led f a (g a) rest) (entries_same f g (a + 1) n (λ c from below. same c (omega arith) (omega arith)))
