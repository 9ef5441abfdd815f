-- Lists made of a range of numbers: what holds of each element, and that no two are the same.
use Rattle.{c104_plan.specs.Distinctness.AreDistinct, std.proofs.Common.{All, Bool, List, [], ap, arith, false, map, refl, suc, zero, ℕ}}
use Rattle.std.proofs.{Common.{◌++◌, ◌+◌, ◌<◌, ◌||◌, ◌∙◌, ◌∷◌, ◌≡◌, ◌≤◌}, lemmas.List.Elements.{All-cons, All-nil}}
use Rattle.std.{proofs.lemmas.List.{FromFn.map-range_with_len_more, flat_map_more}, specs.List.{AllByRecursion, flat_map, list_any}}
use Rattle.std.specs.List.{range_with_len}

pub all_range : {X : Type 0} (P : X → Type 0) (f : ℕ → X) (n count : ℕ) → ((i : ℕ) → i < n + count → P (f i)) → All P (map f (range_with_len n count))
all_range P f n zero each = All-nil P
all_range P f n (suc count) each = All-cons P (f n) (map f (range_with_len (n + 1) count)) (each n (omega arith)) (all_range P f (n + 1) count (λ i lt. each i (omega (arith, lt))))

-- what is said of each by recursion
pub all_of_each : {X : Type 0} (P : X → Type 0) (xs : List X) → AllByRecursion P xs → All P xs
all_of_each P [] each = All-nil P
all_of_each P (x ∷ xs) each = All-cons P x xs each.0 (all_of_each P xs each.1)

pub each_append : {X : Type 0} (P : X → Type 0) (xs ys : List X) → AllByRecursion P xs → AllByRecursion P ys → AllByRecursion P (xs ++ ys)
each_append P [] ys a b = b
each_append P (x ∷ xs) ys a b = (a.0, each_append P xs ys a.1 b)

pub each_range : {X : Type 0} (P : X → Type 0) (f : ℕ → X) (n count : ℕ) → ((i : ℕ) → n ≤ i → i < n + count → P (f i)) → AllByRecursion P (map f (range_with_len n count))
each_range P f n zero each = tt
each_range P f n (suc count) each = (each n (omega arith) (omega arith), each_range P f (n + 1) count (λ i le lt. each i (omega (arith, le)) (omega (arith, lt))))

-- the same of lists one after another
pub each_flat : {X : Type 0} (P : X → Type 0) (f : ℕ → List X) (n count : ℕ) → ((i : ℕ) → i < n + count → AllByRecursion P (f i)) → AllByRecursion P (flat_map f (range_with_len n count))
each_flat P f n zero each = tt
each_flat P f n (suc count) each = each_append P (f n) (flat_map f (range_with_len (n + 1) count)) (each n (omega arith)) (each_flat P f (n + 1) count (λ i lt. each i (omega (arith, lt))))

pub distinct_range : {X : Type 0} (e : X → X → Bool) (f : ℕ → X) (n count : ℕ) → ((i j : ℕ) → i < j → j < n + count → e (f i) (f j) ≡ false) → AreDistinct e (map f (range_with_len n count))
distinct_range e f n zero differ = tt
distinct_range e f n (suc count) differ =
    (each_range (λ y. e (f n) y ≡ false) f (n + 1) count (λ i le lt. differ n i (omega (arith, le)) (omega (arith, lt))), distinct_range e f (n + 1) count (λ i j a b. differ i j a (omega (arith, b))))

pub distinct_both : {X : Type 0} (e : X → X → Bool) (xs ys : List X) → AreDistinct e xs → AreDistinct e ys → AllByRecursion (λ x. AllByRecursion (λ y. e x y ≡ false) ys) xs → AreDistinct e (xs ++ ys)
distinct_both e [] ys a b apart = b
distinct_both e (x ∷ xs) ys a b apart = (each_append (λ y. e x y ≡ false) xs ys a.0 apart.0, distinct_both e xs ys a.1 b apart.1)

-- none of them passes a test
pub none_in_range : {X : Type 0} (test : X → Bool) (f : ℕ → X) (n count : ℕ) → ((i : ℕ) → i < n + count → test (f i) ≡ false) → list_any test (map f (range_with_len n count)) ≡ false
none_in_range test f n zero none = refl
none_in_range test f n (suc count) none = λ i. none n (omega arith) i || none_in_range test f (n + 1) count (λ k lt. none k (omega (arith, lt))) i

-- what a loop adds
pub map_next : {X : Type 0} (f : ℕ → X) (n : ℕ) (so_far next : List X) (x : X) → so_far ≡ map f (range_with_len 0 n) → x ≡ f n → next ≡ so_far ++ x ∷ [] → next ≡ map f (range_with_len 0 (n + 1))
map_next f n so_far next x so is grown = search (arith, map-range_with_len_more)

-- the numbers up to one more
range_last : (a n : ℕ) → range_with_len a (suc n) ≡ range_with_len a n ++ (a + n) ∷ []
range_last a zero = let same : a ≡ a + 0 = omega arith in ap (λ m. m ∷ []) same
range_last a (suc n) = let same : a + 1 + n ≡ a + suc n = omega arith in ap (λ ms. a ∷ ms) (range_last (a + 1) n ∙ ap (λ m. range_with_len (a + 1) n ++ m ∷ []) same)

range_more : (n : ℕ) → range_with_len 0 (n + 1) ≡ range_with_len 0 n ++ n ∷ []
range_more n =
    let next : n + 1 ≡ suc n = omega arith in
    let same : 0 + n ≡ n = omega arith in
    ap (range_with_len 0) next ∙ range_last 0 n ∙ ap (λ m. range_with_len 0 n ++ m ∷ []) same

pub flat_next : {X : Type 0} (f : ℕ → List X) (n : ℕ) (before so_far next : List X) → so_far ≡ before ++ flat_map f (range_with_len 0 n) → next ≡ so_far ++ f n → next ≡ before ++ flat_map f (range_with_len 0 (n + 1))
flat_next f n before so_far next so grown = search (arith, flat_map_more, range_more)
