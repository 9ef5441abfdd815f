-- A loop over a list: what is so of each element so far, and of the next.
use Rattle.std.proofs.{Common.{List, arith, get_or, length, ℕ, ◌+◌, ◌<◌, ◌≡◌}, lemmas.{Bool.cases_eq, Option.slice_get-get_or}}

pub each_next : {X : Type 0} (P : X → Type 0) (xs : List X) (i : ℕ) (x : X) → i < length xs → x ≡ get_or xs i x → P x → ((k : ℕ) (d : X) → k < i → P (get_or xs k d)) → (k : ℕ) (d : X) → k < i + 1 → P (get_or xs k d)
each_next P xs i x inside is here before k d below = search (arith, cases_eq, slice_get-get_or)
