-- A walk that compares what it meets with a list, one by one.
use Rattle.{c104_run.proofs.KeptElements.{drop_all, drop_next}, std.proofs.Common.{Bool, IsTrue, List, Some, [], ap, arith, drop, false}}
use Rattle.std.proofs.Common.{length, nat_le, refl, slice_get, subst, suc, sym, true, zero, ℕ, ◌+◌, ◌<◌, ◌↔◌, ◌∙◌, ◌∷◌, ◌≡◌, ◌≤◌}
use Rattle.std.proofs.lemmas.Bool.Decides.{nat_tests}

never : {A : Type 0} → IsTrue false → A
never is = absurd (let not_so : false ≡ true = is in cc)

module _ {X : Type 0} where
  -- what a list begins with from a place on is there
  drop_get : (xs : List X) (i : ℕ) (x : X) (rest : List X) → drop i xs ≡ x ∷ rest → slice_get xs i ≡ Some x
  drop_get [] zero x rest is = absurd (cc)
  drop_get [] (suc i) x rest is = absurd (cc)
  drop_get (y ∷ xs) zero x rest is = let same : y ≡ x = cc in ap Some same
  drop_get (y ∷ xs) (suc i) x rest is = drop_get xs i x rest is

  -- the next is the same
  pub equal_next : (All : Type 0) (ps rest xs : List X) (i : ℕ) (x : X) → ps ≡ x ∷ rest → slice_get xs i ≡ Some x → ((ps ≡ drop i xs) ↔ All) → ((rest ≡ drop (i + 1) xs) ↔ All)
  equal_next All ps rest xs i x first there same = search (arith, drop_next)

  -- nothing is met
  pub equal_over : (All : Type 0) (ps rest xs : List X) (i : ℕ) → ps ≡ rest → ((ps ≡ drop i xs) ↔ All) → ((rest ≡ drop i xs) ↔ All)
  equal_over All ps rest xs i first same = subst (λ zs. (zs ≡ drop i xs) ↔ All) first same

  -- the next is another, or there is none
  pub equal_fails : (All : Type 0) (ps rest xs : List X) (i : ℕ) (x : X) → ps ≡ x ∷ rest → (slice_get xs i ≡ Some x → ⊥) → ((ps ≡ drop i xs) ↔ All) → IsTrue false ↔ All
  equal_fails All ps rest xs i x first other same = (λ is. never is, λ all. absurd (other (drop_get xs i x rest (sym (same.1 all) ∙ first))))

  drop_more : (xs : List X) (i : ℕ) → i < length xs → [] ≡ drop i xs → ⊥
  drop_more [] i less is = absurd (let no : ⊥ = omega (arith, less) in no)
  drop_more (x ∷ xs) zero less is = cc
  drop_more (x ∷ xs) (suc i) less is = drop_more xs i (omega (arith, less)) is

  -- at the end all was met, or something is left
  pub equal_ends : (All : Type 0) (ps xs : List X) (i : ℕ) → ps ≡ [] → length xs ≤ i → ((ps ≡ drop i xs) ↔ All) → IsTrue true ↔ All
  equal_ends All ps xs i first past same = (λ is. same.0 (first ∙ sym (drop_all xs i past)), λ all. refl)

  pub equal_short : (All : Type 0) (ps xs : List X) (i : ℕ) → ps ≡ [] → i < length xs → ((ps ≡ drop i xs) ↔ All) → IsTrue false ↔ All
  equal_short All ps xs i first less same = (λ is. never is, λ all. absurd (drop_more xs i less (sym first ∙ same.1 all)))

  -- whichever of the two it was
  pub equal_answer : (All : Type 0) (ps xs : List X) (i : ℕ) → ps ≡ [] → ((ps ≡ drop i xs) ↔ All) → IsTrue (nat_le (length xs) i) ↔ All
  equal_answer All ps xs i first same = by_test (nat_le (length xs) i) refl
    where
      by_test : (b : Bool) → nat_le (length xs) i ≡ b → IsTrue b ↔ All
      by_test true is = equal_ends All ps xs i first (grind (arith, nat_tests)) same
      by_test false is = equal_short All ps xs i first (grind (arith, nat_tests)) same
