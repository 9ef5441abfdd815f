-- Entries that lead, sorted by ticket: what is told of each of them, with its ticket, is sorted too.
use Rattle.{c104_net.specs.{Merges.{by_ticket, join_by_ticket}, Replays.with_ticket, declared.leading.Lead.Lead}, std.proofs.Common.Bool}
use Rattle.std.proofs.Common.{List, [], ap, false, if◌then◌else◌, map, nat_le, refl, sym, true, ℕ, ◌∙◌, ◌∷◌, ◌≡◌}

module _ {X Y : Type 0} (f : X → Y) where
  abbrev On : ℕ × X → ℕ × Y
  On x = (x.0, f x.1)

  join_on : (x : ℕ × X) (xs : List (ℕ × X)) → map On (join_by_ticket x xs) ≡ join_by_ticket (On x) (map On xs)
  join_on x [] = refl
  join_on x (y ∷ ys) = by_test (join_on x ys) (nat_le x.0 y.0)
    where
      by_test : map On (join_by_ticket x ys) ≡ join_by_ticket (On x) (map On ys) → (b : Bool) → map On (if b then x ∷ y ∷ ys else y ∷ join_by_ticket x ys) ≡ (if b then On x ∷ On y ∷ map On ys else On y ∷ join_by_ticket (On x) (map On ys))
      by_test rest true = refl
      by_test rest false = ap (λ zs. On y ∷ zs) rest

  sorted_on : (xs : List (ℕ × X)) → map On (by_ticket xs) ≡ by_ticket (map On xs)
  sorted_on [] = refl
  sorted_on (x ∷ xs) = join_on x (by_ticket xs) ∙ ap (join_by_ticket (On x)) (sorted_on xs)

module _ {Y : Type 0} (f : Lead → Y) where
  abbrev pub Told : Lead → ℕ × Y
  Told x = (x.ticket, f x)

  told_all : (leads : List Lead) → map (λ (x : ℕ × Lead). (x.0, f x.1)) (map with_ticket leads) ≡ map Told leads
  told_all [] = refl
  told_all (x ∷ leads) = ap (λ ys. Told x ∷ ys) (told_all leads)

  pub sorted_told : (leads new : List Lead) → map with_ticket new ≡ by_ticket (map with_ticket leads) → map Told new ≡ by_ticket (map Told leads)
  sorted_told leads new is = sym (told_all new) ∙ ap (map (λ (x : ℕ × Lead). (x.0, f x.1))) is ∙ sorted_on f (map with_ticket leads) ∙ ap by_ticket (told_all leads)
