-- What is left of the steps of each loop: the next ones, and the rest.
use Rattle.{c104_regs.specs.declared.settings.Settings.Settings, c104_tools.specs.Loads.{due_entry, due_value, peeks, steps_from}}
use Rattle.{c104_tools.specs.Steps.Step, std.proofs.Common.{List, Option, [], ap, arith, drop, drop-cons, get_or, length, map, refl, suc}}
use Rattle.std.{proofs.{Common.{sym, zero, ℕ, ◌++◌, ◌+◌, ◌-◌, ◌<◌, ◌∙◌, ◌∷◌, ◌≡◌, ◌≤◌}, lemmas.List.map-append}, specs.List.flat_map}
use Rattle.std.specs.List.{range_with_len}

-- the numbers from a up to n
abbrev pub numbers_left : ℕ → ℕ → List ℕ
numbers_left a n = range_with_len a (n - a)

pub numbers_all : (a n end : ℕ) → end ≡ a + n → range_with_len a n ≡ numbers_left a end
numbers_all a n end is = let same : n ≡ end - a = omega arith in ap (range_with_len a) same

pub numbers_next : (a n : ℕ) → a < n → numbers_left a n ≡ a ∷ numbers_left (a + 1) n
numbers_next a n below = let more : n - a ≡ suc (n - (a + 1)) = omega arith in ap (range_with_len a) more

pub numbers_none : (a n : ℕ) → n ≤ a → numbers_left a n ≡ []
numbers_none a n past = let none : n - a ≡ 0 = omega arith in ap (range_with_len a) none

-- those from i on of n numbers
pub numbers_from : (a n : ℕ) → range_with_len a n ≡ numbers_left (a + 0) (a + n)
numbers_from a n = search arith

pub numbers_on : (a n i : ℕ) → i < n → numbers_left (a + i) (a + n) ≡ (a + i) ∷ numbers_left (a + (i + 1)) (a + n)
numbers_on a n i inside = search (arith, numbers_next)

-- what is left of a list
left_next : {X : Type 0} (xs : List X) (i : ℕ) (d : X) → i < length xs → drop i xs ≡ get_or xs i d ∷ drop (i + 1) xs
left_next xs i d inside = let next : suc i ≡ i + 1 = omega arith in drop-cons xs i d inside ∙ ap (λ n. get_or xs i d ∷ drop n xs) next

left_none : {X : Type 0} (xs : List X) (i : ℕ) → length xs ≤ i → drop i xs ≡ []
left_none [] zero past = refl
left_none [] (suc i) past = refl
left_none (x ∷ xs) zero past = absurd (omega arith)
left_none (x ∷ xs) (suc i) past = left_none xs i (omega arith)

pub mapped_next : {X : Type 0} (f : X → Step) (xs : List X) (i : ℕ) (d : X) → i < length xs → map f (drop i xs) ≡ (f (get_or xs i d) ∷ []) ++ map f (drop (i + 1) xs)
mapped_next f xs i d inside = ap (map f) (left_next xs i d inside)

pub mapped_none : {X : Type 0} (f : X → Step) (xs : List X) (i : ℕ) → length xs ≤ i → map f (drop i xs) ≡ []
mapped_none f xs i past = ap (map f) (left_none xs i past)

-- peeks of the addresses from a on at which something is due
abbrev pub peeks_left : ℕ → List Settings → ℕ → ℕ → List Step
peeks_left switch settings a n = peeks switch (flat_map (λ b. due_entry b (due_value settings b)) (numbers_left a n))

pub peeks_next : (switch : ℕ) (settings : List Settings) (a n : ℕ) → a < n → (due : Option ℕ) → due ≡ due_value settings a → peeks_left switch settings a n ≡ peeks switch (due_entry a due) ++ peeks_left switch settings (a + 1) n
peeks_next switch settings a n below due is = search (arith, numbers_next, map-append)

-- steps of the switches of an image
pub switches_next : (f : ℕ → List Settings → List Step) (image : List (List Settings)) (i : ℕ) (x : List Settings) → i < length image → x ≡ get_or image i x → steps_from f i (drop i image) ≡ f i x ++ steps_from f (i + 1) (drop (i + 1) image)
switches_next f image i x inside is = ap (steps_from f i) (left_next image i x inside) ∙ ap (λ y. f i y ++ steps_from f (i + 1) (drop (i + 1) image)) (sym is)

pub switches_none : (f : ℕ → List Settings → List Step) (image : List (List Settings)) (i : ℕ) → length image ≤ i → steps_from f i (drop i image) ≡ []
switches_none f image i past = ap (steps_from f i) (left_none image i past)
