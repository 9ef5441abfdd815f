-- A stable sort by ticket: lists that ascend by ticket and have the same things of each ticket in the same order are one
-- list.
use Rattle.{c104_net.specs.Merges.{by_ticket, join_by_ticket}, std.proofs.Common.{Bool, List, [], ap, arith, false, filter, get_or}}
use Rattle.std.proofs.Common.{if◌then◌else◌, length, map, nat_eq, nat_le, not, refl, suc, sym, true, ℕ, ◌&&◌, ◌<◌, ◌∙◌, ◌∷◌, ◌≡◌, ◌≤◌}
use Rattle.std.{proofs.lemmas.Bool.Decides.nat_tests, specs.{List.Sorted.{IsNonDecreasingBy, IsStableByKey}, Ordering.{is_lt, nat_cmp}}}

itself : (t : ℕ) → nat_eq t t ≡ true
itself t = grind (arith, nat_tests)

module _ {X : Type 0} where
  -- those of one ticket
  abbrev OfTicket : ℕ → List (ℕ × X) → List (ℕ × X)
  OfTicket t [] = []
  OfTicket t (x ∷ xs) = if nat_eq t x.0 then x ∷ OfTicket t xs else OfTicket t xs

  -- each has this ticket or a later one
  abbrev AreFrom : ℕ → List (ℕ × X) → Type 0
  AreFrom t [] = Unit {0}
  AreFrom t (x ∷ xs) = (t ≤ x.0) × AreFrom t xs

  -- tickets ascend
  abbrev Ascend : List (ℕ × X) → Type 0
  Ascend [] = Unit {0}
  Ascend (x ∷ xs) = AreFrom x.0 xs × Ascend xs

  from_before : (s t : ℕ) (xs : List (ℕ × X)) → s ≤ t → AreFrom t xs → AreFrom s xs
  from_before s t [] less from = tt
  from_before s t (x ∷ xs) less from = (let first = from.0 in omega (arith, less, first), from_before s t xs less from.1)

  from_join : (t : ℕ) (x : ℕ × X) (ys : List (ℕ × X)) → t ≤ x.0 → AreFrom t ys → AreFrom t (join_by_ticket x ys)
  from_join t x [] first from = (first, tt)
  from_join t x (y ∷ ys) first from = search (arith, from_join t x ys first from.1)

  join_ascends : (x : ℕ × X) (ys : List (ℕ × X)) → Ascend ys → Ascend (join_by_ticket x ys)
  join_ascends x [] up = (tt, tt)
  join_ascends x (y ∷ ys) up = search (arith, nat_tests, from_before, from_join, join_ascends x ys up.1)

  sorted_ascends : (xs : List (ℕ × X)) → Ascend (by_ticket xs)
  sorted_ascends [] = tt
  sorted_ascends (x ∷ xs) = join_ascends x (by_ticket xs) (sorted_ascends xs)

  -- a thing that joins stands before those of its ticket
  join_ticket : (t : ℕ) (x : ℕ × X) (ys : List (ℕ × X)) → OfTicket t (join_by_ticket x ys) ≡ OfTicket t (x ∷ ys)
  join_ticket t x [] = refl
  join_ticket t x (y ∷ ys) = search (arith, nat_eq, nat_tests, join_ticket t x ys)

  sorted_ticket : (t : ℕ) (xs : List (ℕ × X)) → OfTicket t (by_ticket xs) ≡ OfTicket t xs
  sorted_ticket t [] = refl
  sorted_ticket t (x ∷ xs) = join_ticket t x (by_ticket xs) ∙ ap (λ zs. if nat_eq t x.0 then x ∷ zs else zs) (sorted_ticket t xs)

  none_of : (t : ℕ) (xs : List (ℕ × X)) → AreFrom (suc t) xs → OfTicket t xs ≡ []
  none_of t [] above = refl
  none_of t (x ∷ xs) above = let first = above.0 in let differs : nat_eq t x.0 ≡ false = grind (arith, nat_tests) in rw differs (none_of t xs above.1)

  own : (x : ℕ × X) (xs : List (ℕ × X)) → OfTicket x.0 (x ∷ xs) ≡ x ∷ OfTicket x.0 xs
  own x xs = rw (itself x.0) refl

  above : (t : ℕ) (x : ℕ × X) (xs : List (ℕ × X)) → t < x.0 → Ascend (x ∷ xs) → OfTicket t (x ∷ xs) ≡ []
  above t x xs less up = none_of t (x ∷ xs) (less, from_before (suc t) x.0 xs less up.0)

  -- lists that ascend and have the same of each ticket
  same_ascending : (ys zs : List (ℕ × X)) → Ascend ys → Ascend zs → ((t : ℕ) → OfTicket t ys ≡ OfTicket t zs) → ys ≡ zs
  same_ascending [] [] up down same = refl
  same_ascending [] (z ∷ zs) up down same = absurd (let is : [] ≡ z ∷ OfTicket z.0 zs = same z.0 ∙ own z zs in cc)
  same_ascending (y ∷ ys) [] up down same = absurd (let is : y ∷ OfTicket y.0 ys ≡ [] = sym (own y ys) ∙ same y.0 in cc)
  same_ascending (y ∷ ys) (z ∷ zs) up down same = by_order (λ rest. same_ascending ys zs up.1 down.1 rest) (nat_le y.0 z.0) refl (nat_le z.0 y.0) refl
    where
      left : y ≡ z → (t : ℕ) → OfTicket t ys ≡ OfTicket t zs
      left heads t = by_test (nat_eq t y.0) refl (ap (λ (x : ℕ × X). nat_eq t x.0) (sym heads)) (same t)
        where
          by_test : (b : Bool) → nat_eq t y.0 ≡ b → nat_eq t z.0 ≡ nat_eq t y.0 → (if nat_eq t y.0 then y ∷ OfTicket t ys else OfTicket t ys) ≡ (if nat_eq t z.0 then z ∷ OfTicket t zs else OfTicket t zs) → OfTicket t ys ≡ OfTicket t zs
          by_test true at equal is = let both : y ∷ OfTicket t ys ≡ z ∷ OfTicket t zs = rw (equal, at) at is in cc
          by_test false at equal is = rw (equal, at) at is

      by_order : (((t : ℕ) → OfTicket t ys ≡ OfTicket t zs) → ys ≡ zs) → (b : Bool) → nat_le y.0 z.0 ≡ b → (c : Bool) → nat_le z.0 y.0 ≡ c → y ∷ ys ≡ z ∷ zs
      by_order again false is c at =
          let less : z.0 < y.0 = grind (arith, nat_tests) in
          absurd (let is : [] ≡ z ∷ OfTicket z.0 zs = sym (above z.0 y ys less up) ∙ same z.0 ∙ own z zs in cc)
      by_order again true is false at =
          let less : y.0 < z.0 = grind (arith, nat_tests) in
          absurd (let is : y ∷ OfTicket y.0 ys ≡ [] = sym (own y ys) ∙ same y.0 ∙ above y.0 z zs less down in cc)
      by_order again true is true at =
          let tickets : y.0 ≡ z.0 = grind (arith, nat_tests) in
          let both : y ∷ OfTicket y.0 ys ≡ z ∷ OfTicket z.0 zs = sym (own y ys) ∙ same y.0 ∙ ap (λ t. OfTicket t (z ∷ zs)) tickets ∙ own z zs in
          let heads : y ≡ z = cc in
          ap (λ x. x ∷ ys) heads ∙ ap (λ xs. z ∷ xs) (again (left heads))

-- two tickets tie where they are equal
ties_are : (a b : ℕ) → (not (is_lt (nat_cmp a b)) && not (is_lt (nat_cmp b a))) ≡ nat_eq a b
ties_are a b = search (arith, nat_tests)

-- things of which each gives a ticket and something else
module _ {Y X : Type 0} (f : Y → ℕ × X) where
  -- a list that ascends by tickets, as std says it of a sort
  up_from : (ys : List Y) → IsNonDecreasingBy (λ y. (f y).0) ys → Ascend (map f ys)
  up_from [] up = tt
  up_from (y ∷ ys) up = (first ys (λ i d below. up 0 (suc i) d (omega arith) (omega (arith, below))), up_from ys (λ i j d less below. up (suc i) (suc j) d (omega (arith, less)) (omega (arith, below))))
    where
      first : (zs : List Y) → ((i : ℕ) (d : Y) → i < length zs → (f y).0 ≤ (f (get_or zs i d)).0) → AreFrom (f y).0 (map f zs)
      first [] from = tt
      first (z ∷ zs) from = (from 0 z (omega arith), first zs (λ i d below. from (suc i) d (omega (arith, below))))

  tickets_from : (t : ℕ) (p : Y → Bool) (ys : List Y) → ((y : Y) → p y ≡ nat_eq t (f y).0) → OfTicket t (map f ys) ≡ map f (filter p ys)
  tickets_from t p [] same = refl
  tickets_from t p (y ∷ ys) same = search (arith, tickets_from t p ys same)

  -- a stable sort by ticket, where g makes a thing of any ticket
  pub stable_is : (g : ℕ → Y) → ((t : ℕ) → (f (g t)).0 ≡ t) → (xs ys : List Y) → IsNonDecreasingBy (λ y. (f y).0) ys → IsStableByKey (λ y. (f y).0) nat_cmp xs ys → map f ys ≡ by_ticket (map f xs)
  stable_is g ticket xs ys up stable = same_ascending (map f ys) (by_ticket (map f xs)) (up_from ys up) (sorted_ascends (map f xs)) (λ t.
      let p : Y → Bool = λ y. (not (is_lt (nat_cmp (f (g t)).0 (f y).0)) && not (is_lt (nat_cmp (f y).0 (f (g t)).0))) in
      let same : (y : Y) → p y ≡ nat_eq t (f y).0 = λ y. ties_are (f (g t)).0 (f y).0 ∙ ap (λ n. nat_eq n (f y).0) (ticket t) in
      tickets_from t p ys same ∙ ap (map f) (stable (g t)) ∙ sym (tickets_from t p xs same) ∙ sym (sorted_ticket t (map f xs)))
