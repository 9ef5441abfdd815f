-- What stands at a place of a list that is made of a range of numbers.
use Rattle.std.{proofs.Common.{Some, ap, arith, map, slice_get, suc, sym, zero, ℕ, ◌+◌, ◌<◌, ◌∙◌, ◌≡◌}, specs.List.range_with_len}

made_at : {X : Type 0} (f : ℕ → X) (n count i : ℕ) → i < count → slice_get (map f (range_with_len n count)) i ≡ Some (f (n + i))
made_at f n zero i lt = absurd (omega (arith, lt))
made_at f n (suc count) zero lt = ap (λ j. Some (f j)) (omega arith)
made_at f n (suc count) (suc i) lt = made_at f (n + 1) count i (omega (arith, lt)) ∙ ap (λ j. Some (f j)) (omega arith)

made_was : {X : Type 0} (f : ℕ → X) (n count i : ℕ) (x : X) → slice_get (map f (range_with_len n count)) i ≡ Some x → (i < count) × (x ≡ f (n + i))
made_was f n zero i x is = absurd cc
made_was f n (suc count) zero x is = (omega arith, (let e : f n ≡ x = cc in sym e) ∙ ap f (omega arith))
made_was f n (suc count) (suc i) x is = let rest = made_was f (n + 1) count i x is in (omega (arith, rest.0), rest.1 ∙ ap f (omega arith))

pub map_at : {X : Type 0} (f : ℕ → X) (count i : ℕ) → i < count → slice_get (map f (range_with_len 0 count)) i ≡ Some (f i)
map_at f count i lt = made_at f 0 count i lt ∙ ap (λ j. Some (f j)) (omega arith)

pub map_was : {X : Type 0} (f : ℕ → X) (count i : ℕ) (x : X) → slice_get (map f (range_with_len 0 count)) i ≡ Some x → (i < count) × (x ≡ f i)
map_was f count i x is = let found = made_was f 0 count i x is in (found.0, found.1 ∙ ap f (omega arith))
