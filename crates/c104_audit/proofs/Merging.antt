-- Things that lead, joined by ticket: the order in which they stand, and that each is there.
use Rattle.c104_audit.{proofs.Matching.{AreLeading, StandsBefore}, specs.Leads.{AreRising, Lead, leads_at, leads_from, list_at}}
use Rattle.{c104_audit.specs.Leads.merged_leads, c104_net.{proofs.Members.{IsIn, in_left, in_right}, specs.Merges.by_ticket}}
use Rattle.{c104_net.specs.Merges.join_by_ticket, c104_plan.proofs.RangeLists.each_append, std.proofs.Common.{Bool, List, [], ap, arith}}
use Rattle.std.proofs.Common.{false, filter, if◌then◌else◌, inl, inr, nat_le, refl, subst, suc, sym, true, zero, ℕ, ◌++◌, ◌+◌, ◌<◌, ◌∙◌}
use Rattle.std.{proofs.{Common.{◌∷◌, ◌≡◌, ◌⊎◌}, lemmas.Bool.Decides.nat_tests}, specs.List.AllByRecursion}

module _ {X : Type 0} where
  -- what is so of each thing is so of one that is there
  pub each_in : (P : X → Type 0) (x : X) (xs : List X) → AllByRecursion P xs → IsIn x xs → P x
  each_in P x [] each has = absurd has
  each_in P x (y ∷ ys) each (inl same) = subst P (sym same) each.0
  each_in P x (y ∷ ys) each (inr has) = each_in P x ys each.1 has

  -- and what is so of all that are there is so of each
  pub in_each : (P : X → Type 0) (xs : List X) → ((x : X) → IsIn x xs → P x) → AllByRecursion P xs
  in_each P [] all = tt
  in_each P (x ∷ xs) all = (all x (inl refl), in_each P xs (λ y has. all y (inr has)))

  -- what passes a test is in the list
  pub from_filter : (p : X → Bool) (x : X) (xs : List X) → IsIn x (filter p xs) → IsIn x xs × (p x ≡ true)
  from_filter p x [] has = absurd has
  from_filter p x (y ∷ ys) has = by_test (from_filter p x ys) (p y) refl has
    where
      by_test : (IsIn x (filter p ys) → IsIn x ys × (p x ≡ true)) → (b : Bool) → p y ≡ b → IsIn x (if b then y ∷ filter p ys else filter p ys) → IsIn x (y ∷ ys) × (p x ≡ true)
      by_test rest b at has = search arith

  module _ (ticket : X → ℕ) where
    -- in a list that rises there is one thing of each ticket
    pub one_ticket : (x y : X) (xs : List X) → AreRising ticket xs → IsIn x xs → IsIn y xs → ticket x ≡ ticket y → x ≡ y
    one_ticket x y [] rising first second same = absurd first
    one_ticket x y (z ∷ zs) rising (inl a) (inl b) same = a ∙ sym b
    one_ticket x y (z ∷ zs) rising (inl a) (inr b) same = search (arith, each_in)
    one_ticket x y (z ∷ zs) rising (inr a) (inl b) same = search (arith, each_in)
    one_ticket x y (z ∷ zs) rising (inr a) (inr b) same = one_ticket x y zs rising.1 a b same

    -- lists that rise and have the same things are the same
    pub same_lists : (xs ys : List X) → AreRising ticket xs → AreRising ticket ys → ((z : X) → IsIn z xs → IsIn z ys) → ((z : X) → IsIn z ys → IsIn z xs) → xs ≡ ys
    same_lists [] [] first second there back = refl
    same_lists [] (y ∷ ys) first second there back = absurd (back y (inl refl))
    same_lists (x ∷ xs) [] first second there back = absurd (there x (inl refl))
    same_lists (x ∷ xs) (y ∷ ys) first second there back =
        let heads : x ≡ y = by_first (there x (inl refl)) (back y (inl refl)) in
        ap (λ z. z ∷ xs) heads ∙ ap (λ zs. y ∷ zs) (same_lists xs ys first.1 second.1 (rest_there heads) (rest_back heads))
      where
        by_first : (x ≡ y) ⊎ IsIn x ys → (y ≡ x) ⊎ IsIn y xs → x ≡ y
        by_first one other = search (arith, each_in)

        rest_there : x ≡ y → (z : X) → IsIn z xs → IsIn z ys
        rest_there heads z has = search (arith, each_in)

        rest_back : x ≡ y → (z : X) → IsIn z ys → IsIn z xs
        rest_back heads z has = search (arith, each_in)

module _ {X : Type 0} where
  -- what is so of each thing is so after one more has joined, and after all have joined
  pub each_join : (P : ℕ × X → Type 0) (x : ℕ × X) (ys : List (ℕ × X)) → P x → AllByRecursion P ys → AllByRecursion P (join_by_ticket x ys)
  each_join P x [] first each = (first, tt)
  each_join P x (y ∷ ys) first each = by_test (each_join P x ys first each.1) (nat_le x.0 y.0)
    where
      by_test : AllByRecursion P (join_by_ticket x ys) → (b : Bool) → AllByRecursion P (if b then x ∷ y ∷ ys else y ∷ join_by_ticket x ys)
      by_test rest b = search arith

  pub each_sorted : (P : ℕ × X → Type 0) (xs : List (ℕ × X)) → AllByRecursion P xs → AllByRecursion P (by_ticket xs)
  each_sorted P [] each = tt
  each_sorted P (x ∷ xs) each = each_join P x (by_ticket xs) each.0 (each_sorted P xs each.1)

  -- a thing that joins is there, and so are the others
  joins : (z x : ℕ × X) (ys : List (ℕ × X)) → (z ≡ x) ⊎ IsIn z ys → IsIn z (join_by_ticket x ys)
  joins z x [] has = has
  joins z x (y ∷ ys) has = by_test (joins z x ys) (nat_le x.0 y.0) has
    where
      by_test : ((z ≡ x) ⊎ IsIn z ys → IsIn z (join_by_ticket x ys)) → (b : Bool) → (z ≡ x) ⊎ IsIn z (y ∷ ys) → IsIn z (if b then x ∷ y ∷ ys else y ∷ join_by_ticket x ys)
      by_test rest b has = search arith

  pub in_sorted : (z : ℕ × X) (xs : List (ℕ × X)) → IsIn z xs → IsIn z (by_ticket xs)
  in_sorted z [] has = absurd has
  in_sorted z (x ∷ xs) (inl same) = joins z x (by_ticket xs) (inl same)
  in_sorted z (x ∷ xs) (inr has) = joins z x (by_ticket xs) (inr (in_sorted z xs has))

module _ {X : Type 0} where
  -- one thing that leads is told after another: at a later place, or at the same place with a later ticket
  abbrev pub IsFurther : ℕ × Lead X → ℕ × Lead X → Type 0
  IsFurther m n = (m.1.place < n.1.place) ⊎ ((m.1.place ≡ n.1.place) × (m.0 < n.0))

  abbrev pub AreSpread : List (ℕ × Lead X) → Type 0
  AreSpread [] = Unit {0}
  AreSpread (m ∷ ms) = AllByRecursion (IsFurther m) ms × AreSpread ms

  before_all : (m n : ℕ × Lead X) (ms : List (ℕ × Lead X)) → StandsBefore m n → AllByRecursion (StandsBefore n) ms → AllByRecursion (StandsBefore m) ms
  before_all m n [] before each = tt
  before_all m n (o ∷ ms) before each = (further before each.0, before_all m n ms before each.1)
    where
      further : StandsBefore m n → StandsBefore n o → StandsBefore m o
      further first second = search arith

  join_leading : (m : ℕ × Lead X) (ms : List (ℕ × Lead X)) → AreLeading ms → AllByRecursion (IsFurther m) ms → AreLeading (join_by_ticket m ms)
  join_leading m [] leading further = (tt, tt)
  join_leading m (n ∷ ms) leading further = by_test (join_leading m ms leading.1 further.1) (nat_le m.0 n.0) refl
    where
      by_test : AreLeading (join_by_ticket m ms) → (b : Bool) → nat_le m.0 n.0 ≡ b → AreLeading (if b then m ∷ n ∷ ms else n ∷ join_by_ticket m ms)
      by_test rest b is = search (arith, before_all, nat_tests, each_join)

  -- what is spread leads in order, once it is joined by ticket
  pub sorted_leading : (ms : List (ℕ × Lead X)) → AreSpread ms → AreLeading (by_ticket ms)
  sorted_leading [] spread = tt
  sorted_leading (m ∷ ms) spread = join_leading m (by_ticket ms) (sorted_leading ms spread.1) (each_sorted (IsFurther m) ms spread.0)

  spread_append : (ms ns : List (ℕ × Lead X)) → AreSpread ms → AreSpread ns → AllByRecursion (λ m. AllByRecursion (IsFurther m) ns) ms → AreSpread (ms ++ ns)
  spread_append [] ns first second across = second
  spread_append (m ∷ ms) ns first second across = (each_append (IsFurther m) ms ns first.0 across.0, spread_append ms ns first.1 second across.1)

  module _ (ticket : X → ℕ) (leads : ℕ → X → Bool) where
    -- a thing that leads is one of its list
    pub record IsLeadOf (k : ℕ) (lists : List (List X)) (m : ℕ × Lead X) : Type 0 where
      pub offset : ℕ
      pub place : m.1.place ≡ k + offset
      pub there : IsIn m.1.entry (list_at lists offset)
      pub leading : leads m.1.place m.1.entry ≡ true
      pub told : m.0 ≡ ticket m.1.entry

    -- the same of one list
    record IsLeadAt (k : ℕ) (xs : List X) (m : ℕ × Lead X) : Type 0 where
      pub place : m.1.place ≡ k
      pub there : IsIn m.1.entry xs
      pub leading : leads m.1.place m.1.entry ≡ true
      pub told : m.0 ≡ ticket m.1.entry

    leads_list : (k : ℕ) (xs : List X) → AllByRecursion (IsLeadAt k xs) (leads_at ticket leads k xs)
    leads_list k xs = each_of xs xs (λ x has. has)
      where
        each_of : (ys xs : List X) → ((x : X) → IsIn x ys → IsIn x xs) → AllByRecursion (IsLeadAt k xs) (leads_at ticket leads k ys)
        each_of [] xs inside = tt
        each_of (y ∷ ys) xs inside = by_test (each_of ys xs (λ x has. inside x (inr has))) (leads k y) refl
          where
            by_test : AllByRecursion (IsLeadAt k xs) (leads_at ticket leads k ys) → (b : Bool) → leads k y ≡ b → AllByRecursion (IsLeadAt k xs) (if b then (ticket y, record { place = k; entry = y }) ∷ leads_at ticket leads k ys else leads_at ticket leads k ys)
            by_test rest true is = (record { place = refl; there = inside y (inl refl); leading = is; told = refl }, rest)
            by_test rest false is = rest

    pub leads_are : (k : ℕ) (lists : List (List X)) → AllByRecursion (IsLeadOf k lists) (leads_from ticket leads k lists)
    leads_are k [] = tt
    leads_are k (list ∷ lists) = each_append (IsLeadOf k (list ∷ lists)) (leads_at ticket leads k list) (leads_from ticket leads (suc k) lists)
        (in_each (IsLeadOf k (list ∷ lists)) (leads_at ticket leads k list) here)
        (in_each (IsLeadOf k (list ∷ lists)) (leads_from ticket leads (suc k) lists) (later (leads_are (suc k) lists)))
      where
        here : (m : ℕ × Lead X) → IsIn m (leads_at ticket leads k list) → IsLeadOf k (list ∷ lists) m
        here m has = let one = each_in (IsLeadAt k list) m (leads_at ticket leads k list) (leads_list k list) has in let at = one.place in record { offset = 0; place = omega (arith, at); there = one.there; leading = one.leading; told = one.told }

        later : AllByRecursion (IsLeadOf (suc k) lists) (leads_from ticket leads (suc k) lists) → (m : ℕ × Lead X) → IsIn m (leads_from ticket leads (suc k) lists) → IsLeadOf k (list ∷ lists) m
        later rest m has = let one = each_in (IsLeadOf (suc k) lists) m (leads_from ticket leads (suc k) lists) rest has in let at = one.place in record { offset = suc one.offset; place = omega (arith, at); there = one.there; leading = one.leading; told = one.told }

    leads_in : (k : ℕ) (x : X) (xs : List X) → IsIn x xs → leads k x ≡ true → IsIn (ticket x, record { place = k; entry = x }) (leads_at ticket leads k xs)
    leads_in k x [] has is = absurd has
    leads_in k x (y ∷ ys) has is = by_test (leads_in k x ys) (leads k y) refl has
      where
        lead : X → ℕ × Lead X
        lead z = (ticket z, record { place = k; entry = z })

        by_test : (IsIn x ys → leads k x ≡ true → IsIn (lead x) (leads_at ticket leads k ys)) → (b : Bool) → leads k y ≡ b → IsIn x (y ∷ ys) → IsIn (lead x) (if b then lead y ∷ leads_at ticket leads k ys else leads_at ticket leads k ys)
        by_test rest b at there = search arith

    -- each thing that leads is among them
    pub leads_there : (k j : ℕ) (x : X) (lists : List (List X)) → IsIn x (list_at lists j) → leads (k + j) x ≡ true → IsIn (ticket x, record { place = k + j; entry = x }) (leads_from ticket leads k lists)
    leads_there k zero x [] has is = absurd has
    leads_there k (suc j) x [] has is = absurd has
    leads_there k zero x (list ∷ lists) has is = let same : k ≡ k + 0 = omega arith in in_left _ (leads_at ticket leads k list) (leads_from ticket leads (suc k) lists) (subst (λ p. IsIn (ticket x, record { place = p; entry = x }) (leads_at ticket leads k list)) same (leads_in k x list has (subst (λ p. leads p x ≡ true) (sym same) is)))
    leads_there k (suc j) x (list ∷ lists) has is = let same : suc k + j ≡ k + suc j = omega arith in in_right _ (leads_at ticket leads k list) (leads_from ticket leads (suc k) lists) (subst (λ p. IsIn (ticket x, record { place = p; entry = x }) (leads_from ticket leads (suc k) lists)) same (leads_there (suc k) j x lists has (subst (λ p. leads p x ≡ true) (sym same) is)))

    spread_list : (k : ℕ) (xs : List X) → AreRising ticket xs → AreSpread (leads_at ticket leads k xs)
    spread_list k [] rising = tt
    spread_list k (x ∷ xs) rising = by_test (spread_list k xs rising.1) (leads k x)
      where
        lead : ℕ × Lead X
        lead = (ticket x, record { place = k; entry = x })

        further : (m : ℕ × Lead X) → IsIn m (leads_at ticket leads k xs) → IsFurther lead m
        further m has = search (arith, each_in, leads_list)

        by_test : AreSpread (leads_at ticket leads k xs) → (b : Bool) → AreSpread (if b then lead ∷ leads_at ticket leads k xs else leads_at ticket leads k xs)
        by_test rest true = (in_each (IsFurther lead) (leads_at ticket leads k xs) further, rest)
        by_test rest false = rest

    spread_from : (k : ℕ) (lists : List (List X)) → ((j : ℕ) → AreRising ticket (list_at lists j)) → AreSpread (leads_from ticket leads k lists)
    spread_from k [] rising = tt
    spread_from k (list ∷ lists) rising = spread_append (leads_at ticket leads k list) (leads_from ticket leads (suc k) lists) (spread_list k list (rising 0)) (spread_from (suc k) lists (λ j. rising (suc j)))
        (in_each _ (leads_at ticket leads k list) (λ m here. in_each (IsFurther m) (leads_from ticket leads (suc k) lists) (λ n there. across m n here there)))
      where
        across : (m n : ℕ × Lead X) → IsIn m (leads_at ticket leads k list) → IsIn n (leads_from ticket leads (suc k) lists) → IsFurther m n
        across m n here there = search (arith, each_in, leads_list, leads_are)

    -- the merge leads in order
    pub merged_leading : (lists : List (List X)) → ((j : ℕ) → AreRising ticket (list_at lists j)) → AreLeading (merged_leads ticket leads lists)
    merged_leading lists rising = sorted_leading (leads_from ticket leads 0 lists) (spread_from 0 lists rising)
