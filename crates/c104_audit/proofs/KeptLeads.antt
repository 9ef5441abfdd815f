-- Lists of things that lead, in order: two with the same things are one list; and those before a ticket stand first.
use Rattle.c104_audit.{proofs.{Matching.{AreLeading, StandsBefore}, Merging.{each_in, from_filter, in_each}}, specs.Leads.Lead}
use Rattle.{c104_net.{proofs.Members.IsIn, specs.Merges.{by_ticket, join_by_ticket}}, std.proofs.Common.{Bool, List, [], ap, arith, false}}
use Rattle.std.proofs.Common.{filter, if◌then◌else◌, inl, map, nat_le, not, refl, true, ℕ, ◌++◌, ◌<◌, ◌∙◌, ◌∷◌, ◌≡◌, ◌≤◌, ◌⊎◌}
use Rattle.std.specs.List.{AllByRecursion}

module _ {X : Type 0} where
  before_both : (m n : ℕ × Lead X) → StandsBefore m n → StandsBefore n m → ⊥
  before_both m n before after = search arith

  before_itself : (m n : ℕ × Lead X) → n ≡ m → StandsBefore m n → ⊥
  before_itself m n same before = search arith

  -- lists in order that have the same things are one list
  pub same_leading : (ms ns : List (ℕ × Lead X)) → AreLeading ms → AreLeading ns → ((z : ℕ × Lead X) → IsIn z ms → IsIn z ns) → ((z : ℕ × Lead X) → IsIn z ns → IsIn z ms) → ms ≡ ns
  same_leading [] [] first second there back = refl
  same_leading [] (n ∷ ns) first second there back = absurd (back n (inl refl))
  same_leading (m ∷ ms) [] first second there back = absurd (there m (inl refl))
  same_leading (m ∷ ms) (n ∷ ns) first second there back =
      let heads : m ≡ n = by_first (there m (inl refl)) (back n (inl refl)) in
      ap (λ z. z ∷ ms) heads ∙ ap (λ zs. n ∷ zs) (same_leading ms ns first.1 second.1 (rest_there heads) (rest_back heads))
    where
      by_first : (m ≡ n) ⊎ IsIn m ns → (n ≡ m) ⊎ IsIn n ms → m ≡ n
      by_first one other = search (arith, before_both, each_in)

      rest_there : m ≡ n → (z : ℕ × Lead X) → IsIn z ms → IsIn z ns
      rest_there heads z has = search (arith, before_itself, each_in)

      rest_back : m ≡ n → (z : ℕ × Lead X) → IsIn z ns → IsIn z ms
      rest_back heads z has = search (arith, before_itself, each_in)

  -- those of which a test is so
  abbrev pub kept : (X → Bool) → List (ℕ × Lead X) → List (ℕ × Lead X)
  kept p ms = filter (λ (m : ℕ × Lead X). p m.1.entry) ms

  pub leading_kept : (p : X → Bool) (ms : List (ℕ × Lead X)) → AreLeading ms → AreLeading (kept p ms)
  leading_kept p [] leading = tt
  leading_kept p (m ∷ ms) leading = by_test (leading_kept p ms leading.1) (p m.1.entry)
    where
      by_test : AreLeading (kept p ms) → (b : Bool) → AreLeading (if b then m ∷ kept p ms else kept p ms)
      by_test rest b = search (arith, in_each, each_in, from_filter)

  -- those of which a test is so have tickets before this one, and the others have not
  abbrev pub IsEarly : (X → Bool) → ℕ → ℕ × Lead X → Type 0
  IsEarly p first m = (p m.1.entry ≡ true → m.0 < first) × (p m.1.entry ≡ false → first ≤ m.0)

  none_kept : (p : X → Bool) (ms : List (ℕ × Lead X)) → AllByRecursion (λ m. p m.1.entry ≡ false) ms → kept p ms ≡ []
  none_kept p [] none = refl
  none_kept p (m ∷ ms) none = rw none.0 (none_kept p ms none.1)

  all_kept : (p : X → Bool) (ms : List (ℕ × Lead X)) → AllByRecursion (λ m. p m.1.entry ≡ false) ms → kept (λ x. not (p x)) ms ≡ ms
  all_kept p [] none = refl
  all_kept p (m ∷ ms) none = rw none.0 (ap (λ ns. m ∷ ns) (all_kept p ms none.1))

  -- then those stand first
  pub split_kept : (p : X → Bool) (first : ℕ) (ms : List (ℕ × Lead X)) → AreLeading ms → AllByRecursion (IsEarly p first) ms → ms ≡ kept p ms ++ kept (λ x. not (p x)) ms
  split_kept p first [] leading early = refl
  split_kept p first (m ∷ ms) leading early = by_test (split_kept p first ms leading.1 early.1) (p m.1.entry) refl
    where
      late : first ≤ m.0 → (n : ℕ × Lead X) → IsIn n ms → p n.1.entry ≡ false
      late from n has = search (arith, each_in)

      by_test : ms ≡ kept p ms ++ kept (λ x. not (p x)) ms → (b : Bool) → p m.1.entry ≡ b → m ∷ ms ≡ (if b then m ∷ kept p ms else kept p ms) ++ (if not b then m ∷ kept (λ x. not (p x)) ms else kept (λ x. not (p x)) ms)
      by_test rest b is = search (arith, in_each, late, none_kept, all_kept)

module _ {X Y : Type 0} (f : X → Y) where
  -- the same with another value of each
  abbrev pub revalued : ℕ × X → ℕ × Y
  revalued x = (x.0, f x.1)

  join_map : (x : ℕ × X) (ys : List (ℕ × X)) → join_by_ticket (revalued x) (map revalued ys) ≡ map revalued (join_by_ticket x ys)
  join_map x [] = refl
  join_map x (y ∷ ys) = by_test (join_map x ys) (nat_le x.0 y.0)
    where
      by_test : join_by_ticket (revalued x) (map revalued ys) ≡ map revalued (join_by_ticket x ys) → (b : Bool) → (if b then revalued x ∷ revalued y ∷ map revalued ys else revalued y ∷ join_by_ticket (revalued x) (map revalued ys)) ≡ map revalued (if b then x ∷ y ∷ ys else y ∷ join_by_ticket x ys)
      by_test rest b = search arith

  pub sort_map : (xs : List (ℕ × X)) → by_ticket (map revalued xs) ≡ map revalued (by_ticket xs)
  sort_map [] = refl
  sort_map (x ∷ xs) = ap (join_by_ticket (revalued x)) (sort_map xs) ∙ join_map x (by_ticket xs)
