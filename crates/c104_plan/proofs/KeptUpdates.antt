-- Values in ascending order of addresses, brought up to date at one address.
use Rattle.{c104_plan.specs.SwitchImages.led_by, c104_regs.proofs.KeptEntries.{IsWithin, entries, entries_around, entries_same, within}}
use Rattle.c104_regs.{proofs.{KeptLemmas.entries_all, PlacedPokes.kept_value_same}, specs.KeptValues.{kept_value, kept_values}}
use Rattle.c104_regs.specs.{Registers.{IsRegisterBank, bank_peek, placed_bank}, declared.settings.Settings.Settings}
use Rattle.std.proofs.Common.{All, List, None, Option, Some, ap, arith, false, get_or, inl, inr, length, length-append, nat_lt, refl, subst}
use Rattle.std.proofs.{Common.{sym, true, zero, ℕ, ◌&&◌, ◌++◌, ◌+◌, ◌-◌, ◌<◌, ◌==◌, ◌∙◌, ◌∷◌, ◌≡◌, ◌≢◌, ◌≤◌}, Math.Seq.get_or-append_seam}
use Rattle.std.proofs.lemmas.{Bool.{Decides.nat_tests, cases_lt}, List.Edits.{insert-append_right, remove-append_right}}
use Rattle.std.proofs.lemmas.List.{Elements.{All-cons, All-weaker}, get_or-append-add, get_or_append_left}
use Rattle.std.specs.List.{Sorted.{IsPartitionPoint, IsPartitionedBy}, insert, remove}

-- addresses below one, and those from it on
module _ (front rest : List (ℕ × ℕ)) (a : ℕ) (below : All (λ x. x.0 < a) front) (above : All (λ x. a ≤ x.0) rest) where
  -- what stands at a place
  in_front : (k : ℕ) (d : ℕ × ℕ) → k < length front → (get_or (front ++ rest) k d).0 < a
  in_front k d inside = subst (λ (x : ℕ × ℕ). x.0 < a) (sym (get_or_append_left front rest d k inside)) (below k d inside)

  in_rest : (k : ℕ) (d : ℕ × ℕ) → length front ≤ k → k < length (front ++ rest) → a ≤ (get_or (front ++ rest) k d).0
  in_rest k d past inside =
      let place : length front + (k - length front) ≡ k = omega arith in
      let here : get_or (front ++ rest) k d ≡ get_or rest (k - length front) d = ap (λ n. get_or (front ++ rest) n d) (sym place) ∙ get_or-append-add front rest (k - length front) d in
      subst (λ (x : ℕ × ℕ). a ≤ x.0) (sym here) (above (k - length front) d (omega (arith, length-append front rest)))

  parted : IsPartitionedBy (λ x. nat_lt x.0 a) (front ++ rest)
  parted i j d before inside is = elim (cases_lt j (length front)) [
    | inl first ↦ let less = in_front i d (omega arith) in grind (arith, nat_tests)
    | inr past ↦ let more = in_rest j d past inside in grind (arith, nat_tests)
  ]

  point : (place : ℕ) → place ≤ length (front ++ rest) → IsPartitionPoint (λ x. nat_lt x.0 a ≡ true) (λ x. nat_lt x.0 a ≡ false) (front ++ rest) place → place ≡ length front
  point place within (first, last) = elim (cases_lt place (length front)) [
    | inl inside ↦
        let less = in_front place (zero, zero) inside in
        let not_less = last place (zero, zero) (omega arith) (omega (arith, length-append front rest)) in
        grind (arith, nat_tests)
    | inr past ↦ elim (cases_lt (length front) place) [
      | inl inside ↦
          let more = in_rest (length front) (zero, zero) (omega arith) (omega arith) in
          let less = first (length front) (zero, zero) (omega arith) inside in
          grind (arith, nat_tests)
      | inr same ↦ omega arith
    ]
  ]

pub parted_at : (values front rest : List (ℕ × ℕ)) (a : ℕ) → All (λ x. x.0 < a) front → All (λ x. a ≤ x.0) rest → values ≡ front ++ rest → IsPartitionedBy (λ x. nat_lt x.0 a) values
parted_at values front rest a below above is = subst (IsPartitionedBy (λ x. nat_lt x.0 a)) (sym is) (parted front rest a below above)

pub point_at : (values front rest : List (ℕ × ℕ)) (a place : ℕ) → All (λ x. x.0 < a) front → All (λ x. a ≤ x.0) rest → values ≡ front ++ rest → place ≤ length values → IsPartitionPoint (λ x. nat_lt x.0 a ≡ true) (λ x. nat_lt x.0 a ≡ false) values place → place ≡ length front
point_at values front rest a place below above is within found =
    point front rest a below above place (subst (λ (xs : List (ℕ × ℕ)). place ≤ length xs) is within) (subst (λ (xs : List (ℕ × ℕ)). IsPartitionPoint (λ x. nat_lt x.0 a ≡ true) (λ x. nat_lt x.0 a ≡ false) xs place) is found)

-- a value of the address, if it has one, and those past it
module _ (front back : List (ℕ × ℕ)) (a : ℕ) (above : All (λ x. a < x.0) back) where
  past : All (λ x. a ≤ x.0) back
  past = All-weaker (λ (x : ℕ × ℕ). a < x.0) (λ (x : ℕ × ℕ). a ≤ x.0) (λ x is. omega arith) back above

  pub led_above : (present : Option ℕ) → All (λ x. a ≤ x.0) (led_by a present back)
  led_above present = search (arith, past, All-cons)

  -- where the value at the place is the address's, it is taken out
  pub taken_out : (present : Option ℕ) (values : List (ℕ × ℕ)) (place : ℕ) (d : ℕ × ℕ) → place ≡ length front → values ≡ front ++ led_by a present back → true ≡ (nat_lt place (length values) && (get_or values place d).0 == a) → remove values place ≡ front ++ back
  taken_out None values place d here is there =
      let inside : place < length values = grind (arith, nat_tests) in
      let same : (get_or values place d).0 ≡ a = grind (arith, nat_tests) in
      let more : a < (get_or back 0 d).0 = above 0 d (omega (arith, ap length is, length-append front back)) in
      let on : place ≡ length front + 0 = omega arith in
      search (arith, get_or-append-add)
  taken_out (Some v) values place d here is there =
      let at : length front - length front ≡ 0 = omega arith in
      ap (λ (xs : List (ℕ × ℕ)). remove xs place) is ∙ ap (remove (front ++ (a, v) ∷ back)) here
      ∙ remove-append_right front ((a, v) ∷ back) (length front) (length front) refl (omega arith)
      ∙ ap (λ n. front ++ remove ((a, v) ∷ back) n) at

  -- and else there is none
  pub none_there : (present : Option ℕ) (values : List (ℕ × ℕ)) (place : ℕ) (d : ℕ × ℕ) → place ≡ length front → values ≡ front ++ led_by a present back → false ≡ (nat_lt place (length values) && (get_or values place d).0 == a) → values ≡ front ++ back
  none_there present values place d here is other = search (arith, get_or-append_seam, length-append, nat_tests)

  -- a value put in
  pub put_in : (values : List (ℕ × ℕ)) (place v : ℕ) → values ≡ front ++ back → place ≡ length front → insert values place (a, v) ≡ front ++ (a, v) ∷ back
  put_in values place v is here =
      let at : length front - length front ≡ 0 = omega arith in
      ap (λ (xs : List (ℕ × ℕ)). insert xs place (a, v)) is ∙ ap (λ n. insert (front ++ back) n (a, v)) here
      ∙ insert-append_right front back (length front) (length front) (a, v) refl (omega arith)
      ∙ ap (λ n. front ++ insert back n (a, v)) at

-- a place that was found to be of an address is one of the list
pub inside_by : (values : List (ℕ × ℕ)) (long place a : ℕ) (d : ℕ × ℕ) → length values ≡ long → (nat_lt place (length values) && (get_or values place d).0 == a) ≡ true → place < long
inside_by values long place a d is there = let inside : place < length values = grind (arith, nat_tests) in omega arith

-- the values that are kept after a poke at an address, where each other address reads what it did
pub kept_after : (s t : List Settings) (a : ℕ) (before after : List (ℕ × ℕ)) → IsRegisterBank (placed_bank s) → IsRegisterBank (placed_bank t) → a < 8448 → ((c : ℕ) → c ≢ a → bank_peek (placed_bank t) c ≡ bank_peek (placed_bank s) c)
    → before ≡ kept_values s
    → ((front back : List (ℕ × ℕ)) (present : Option ℕ) → All (λ x. x.0 < a) front → All (λ x. a < x.0) back → before ≡ front ++ led_by a present back → after ≡ front ++ led_by a (kept_value t a) back)
    → after ≡ kept_values t
kept_after s t a before after in_s in_t below others kept updated =
    let n : ℕ = 8448 - (a + 1) in
    let end : a + 1 + n ≡ 8448 = omega arith in
    let front : List (ℕ × ℕ) = entries (kept_value s) 0 a in
    let back : List (ℕ × ℕ) = entries (kept_value s) (a + 1) n in
    let same : (c : ℕ) → c ≢ a → kept_value s c ≡ kept_value t c = λ c differs. kept_value_same s t in_s.in_range in_t.in_range c (sym (others c differs)) in
    let same_front : front ≡ entries (kept_value t) 0 a = entries_same (kept_value s) (kept_value t) 0 a (λ c from inside. same c (λ is. absurd (omega arith))) in
    let same_back : back ≡ entries (kept_value t) (a + 1) n = entries_same (kept_value s) (kept_value t) (a + 1) n (λ c from inside. same c (λ is. absurd (omega arith))) in
    let cut : before ≡ front ++ led_by a (kept_value s a) back = kept ∙ sym (entries_all s 8448 refl) ∙ entries_around (kept_value s) a n 8448 end in
    updated front back (kept_value s a)
    (All-weaker (IsWithin 0 a) (λ (x : ℕ × ℕ). x.0 < a) (λ x is. omega (arith, is.1)) front (within (kept_value s) 0 a))
    (All-weaker (IsWithin (a + 1) n) (λ (x : ℕ × ℕ). a < x.0) (λ x is. omega (arith, is.0)) back (within (kept_value s) (a + 1) n))
    cut
    ∙ ap (λ xs. xs ++ led_by a (kept_value t a) back) same_front
    ∙ ap (λ xs. entries (kept_value t) 0 a ++ led_by a (kept_value t a) xs) same_back
    ∙ sym (entries_around (kept_value t) a n 8448 end)
    ∙ entries_all t 8448 refl
