-- What stands in a list without repetition differs from all before it, and is found where it stands.
use Rattle.{c104_plan.specs.Distinctness.AreDistinct, std.proofs.Common.{All, Bool, List, None, Some, [], arith, cond, false, get_or}}
use Rattle.std.proofs.Common.{length, map, nat_lt, position, refl, subst, suc, sym, true, zero, ℕ, ◌++◌, ◌<◌, ◌||◌, ◌∙◌, ◌∷◌, ◌≡◌}
use Rattle.std.proofs.lemmas.{Bool.Decides.nat_tests, List.{Elements.{All-head, All-tail}, Sums.position_or_len_is}}
use Rattle.std.specs.List.{AllByRecursion, list_any, position_or_len}

-- one of a list, of which all are so
pub All-here : {X : Type 0} (P : X → Type 0) (xs done : List X) (x : X) (more : List X) → done ++ x ∷ more ≡ xs → All P xs → P x
All-here P xs done x more is all = middle done (subst (All P) (sym is) all)
  where
    middle : (front : List _) → All P (front ++ x ∷ more) → P x
    middle [] every = All-head P x more every
    middle (a ∷ front) every = middle front (All-tail P a (front ++ x ∷ more) every)

each_here : {X : Type 0} (P : X → Type 0) (done : List X) (x : X) (more : List X) → AllByRecursion P (done ++ x ∷ more) → P x
each_here P [] x more all = all.0
each_here P (a ∷ done) x more all = each_here P done x more all.1

each_front : {X : Type 0} (P : X → Type 0) (xs ys : List X) → AllByRecursion P (xs ++ ys) → AllByRecursion P xs
each_front P [] ys all = tt
each_front P (x ∷ xs) ys all = (all.0, each_front P xs ys all.1)

each_mapped : {X Y : Type 0} (P : Y → Type 0) (f : X → Y) (xs : List X) → AllByRecursion P (map f xs) → AllByRecursion (λ x. P (f x)) xs
each_mapped P f [] all = tt
each_mapped P f (x ∷ xs) all = (all.0, each_mapped P f xs all.1)

each_at : {X : Type 0} (P : X → Type 0) (xs : List X) (i : ℕ) (d : X) → i < length xs → AllByRecursion P xs → P (get_or xs i d)
each_at P [] i d inside all = absurd (omega arith)
each_at P (x ∷ xs) zero d inside all = all.0
each_at P (x ∷ xs) (suc i) d inside all = each_at P xs i d (omega arith) all.1

-- none before it is the same
pub fresh : {X : Type 0} (e : X → X → Bool) (done : List X) (x : X) (more : List X) → AreDistinct e (done ++ x ∷ more) → list_any (λ y. e y x) done ≡ false
fresh e [] x more differ = refl
fresh e (a ∷ done) x more differ = λ i. each_here (λ y. e a y ≡ false) done x more differ.0 i || fresh e done x more differ.1 i

pub distinct_front : {X : Type 0} (e : X → X → Bool) (xs ys : List X) → AreDistinct e (xs ++ ys) → AreDistinct e xs
distinct_front e [] ys differ = tt
distinct_front e (x ∷ xs) ys differ = (each_front (λ y. e x y ≡ false) xs ys differ.0, distinct_front e xs ys differ.1)

pub distinct_back : {X : Type 0} (e : X → X → Bool) (xs ys : List X) → AreDistinct e (xs ++ ys) → AreDistinct e ys
distinct_back e [] ys differ = differ
distinct_back e (x ∷ xs) ys differ = distinct_back e xs ys differ.1

-- what differs by something of it
pub distinct_mapped : {X Y : Type 0} (e : Y → Y → Bool) (f : X → Y) (xs : List X) → AreDistinct e (map f xs) → AreDistinct (λ x y. e (f x) (f y)) xs
distinct_mapped e f [] differ = tt
distinct_mapped e f (x ∷ xs) differ = (each_mapped (λ y. e (f x) y ≡ false) f xs differ.0, distinct_mapped e f xs differ.1)

distinct_at : {X : Type 0} (e : X → X → Bool) (xs : List X) (i j : ℕ) (d : X) → i < j → j < length xs → AreDistinct e xs → e (get_or xs i d) (get_or xs j d) ≡ false
distinct_at e [] i j d before inside differ = absurd (omega arith)
distinct_at e (x ∷ xs) i zero d before inside differ = absurd (omega arith)
distinct_at e (x ∷ xs) zero (suc j) d before inside differ = each_at (λ y. e x y ≡ false) xs j d (omega arith) differ.0
distinct_at e (x ∷ xs) (suc i) (suc j) d before inside differ = distinct_at e xs i j d (omega arith) (omega arith) differ.1

-- it is found at its place
pub position_at : {X : Type 0} (e : X → X → Bool) → ((x : X) → e x x ≡ true) → (xs : List X) (i : ℕ) (d : X) → i < length xs → AreDistinct e xs → position (λ y. e y (get_or xs i d)) xs ≡ Some i
position_at e itself xs i d inside differ =
    let at : position_or_len (λ y. e y (get_or xs i d)) xs ≡ i =
    position_or_len_is (λ y. e y (get_or xs i d)) xs i d (omega arith)
    (λ k before. distinct_at e xs k i d before inside differ)
    (λ h. itself (get_or xs i d)) in
    let lt : nat_lt i (length xs) ≡ true = grind (arith, nat_tests) in
    (λ j. cond (nat_lt (at j) (length xs)) (Some (at j)) None) ∙ (λ j. cond (lt j) (Some i) None)
