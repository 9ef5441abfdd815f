-- Lists that a loop over numbers makes: what each further number adds.
use Rattle.{c104_node.proofs.Ranges.range_more, c104_run.specs.Rounds.link_numbers, std.proofs.Common.{Bool, List, [], ap, append_assoc}}
use Rattle.std.proofs.Common.{arith, filter, get_or, length, map, sym, take, ℕ, ◌++◌, ◌+◌, ◌<◌, ◌∙◌, ◌∷◌, ◌≡◌}
use Rattle.std.{proofs.lemmas.List.{Elements.filter-append, map-append, take_more}, specs.List.range_with_len}

-- what is made of each of them
pub map_next : {X : Type 0} (f : ℕ → X) (n : ℕ) (before so_far next : List X) → so_far ≡ before ++ map f (range_with_len 0 n) → next ≡ so_far ++ f n ∷ [] → next ≡ before ++ map f (range_with_len 0 (n + 1))
map_next f n before so_far next so grown = search (arith, append_assoc, range_more, map-append)

-- the same of a list that is made of what passes a test
pub kept_next : {X : Type 0} (test : X → Bool) (f : ℕ → X) (n : ℕ) (before so_far next : List X) → so_far ≡ before ++ filter test (map f (range_with_len 0 n)) → next ≡ so_far ++ filter test (f n ∷ []) → next ≡ before ++ filter test (map f (range_with_len 0 (n + 1)))
kept_next test f n before so_far next so grown = search (arith, append_assoc, range_more, map-append, filter-append)

-- all links are passed
pub links_passed : (n : ℕ) → n ≡ 32 → range_with_len 0 n ≡ link_numbers
unfolding link_numbers
links_passed n all = search arith

-- a list that is made element by element of another
pub map_one_more : {X Y : Type 0} (f : X → Y) (xs : List X) (i : ℕ) (x : X) (y : Y) (made next : List Y) → i < length xs → x ≡ get_or xs i x → y ≡ f x → made ≡ map f (take i xs) → next ≡ made ++ y ∷ [] → next ≡ map f (take (i + 1) xs)
map_one_more f xs i x y made next inside is own so grown =
    grown ∙ ap (λ ys. ys ++ y ∷ []) so ∙ ap (λ z. map f (take i xs) ++ z ∷ []) (own ∙ ap f is)
    ∙ sym (ap (map f) (take_more xs i x inside) ∙ map-append f (take i xs) (get_or xs i x ∷ []))
