-- What is found at the addresses of a switch that are left: at the next one, and at the rest.
use Rattle.{c104_session.specs.FoundRegisters.addresses_from, c104_tools.proofs.Rests.{numbers_next, numbers_none}, std.proofs.Common.List}
use Rattle.std.{proofs.Common.{[], ap, append-nil, append_assoc, sym, ℕ, ◌++◌, ◌+◌, ◌<◌, ◌∙◌, ◌∷◌, ◌≡◌, ◌≤◌}, specs.List.flat_map}

addresses_next : (a : ℕ) → a < 8448 → addresses_from a ≡ a ∷ addresses_from (a + 1)
unfolding addresses_from
addresses_next a below = numbers_next a 8448 below

addresses_none : (a : ℕ) → 8448 ≤ a → addresses_from a ≡ []
unfolding addresses_from
addresses_none a past = numbers_none a 8448 past

joined_next : {X : Type 0} (f : ℕ → List X) (a : ℕ) → a < 8448 → flat_map f (addresses_from a) ≡ f a ++ flat_map f (addresses_from (a + 1))
joined_next f a below = ap (flat_map f) (addresses_next a below)

joined_none : {X : Type 0} (f : ℕ → List X) (a : ℕ) → 8448 ≤ a → flat_map f (addresses_from a) ≡ []
joined_none f a past = ap (flat_map f) (addresses_none a past)

-- what is found at the next address joins what was found before
pub joined_on : {X : Type 0} (f : ℕ → List X) (a : ℕ) (all old new piece : List X) → a < 8448 → piece ≡ f a → new ≡ old ++ piece → old ++ flat_map f (addresses_from a) ≡ all → new ++ flat_map f (addresses_from (a + 1)) ≡ all
joined_on f a all old new piece below is made left =
    ap (λ xs. xs ++ flat_map f (addresses_from (a + 1))) (made ∙ ap (λ p. old ++ p) is)
    ∙ append_assoc old (f a) (flat_map f (addresses_from (a + 1)))
    ∙ ap (λ xs. old ++ xs) (sym (joined_next f a below))
    ∙ left

-- behind the last address that is all
pub joined_end : {X : Type 0} (f : ℕ → List X) (a : ℕ) (all items : List X) → 8448 ≤ a → items ++ flat_map f (addresses_from a) ≡ all → items ≡ all
joined_end f a all items past left = sym (append-nil items) ∙ ap (λ xs. items ++ xs) (sym (joined_none f a past)) ∙ left
