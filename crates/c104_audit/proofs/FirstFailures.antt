-- The first numbers of which something doesn't hold.
use Rattle.{c104_audit.specs.{AuditFaults.Everywhere, Firsts.{IsFirst, lower_of}}, std.proofs.Common.{Bool, IsTrue, List, Option, Some}}
use Rattle.std.proofs.Common.{arith, false, length, slice_get, subst, sym, true, ℕ, ◌+◌, ◌<◌, ◌∙◌, ◌≡◌, ◌≤◌}
use Rattle.std.proofs.lemmas.{Bool.Decides.nat_tests, Option.slice_get_within}

-- what is so of each number below one, and of this one
pub below_next : (P : ℕ → Type 0) (i : ℕ) → ((k : ℕ) → k < i → P k) → P i → (k : ℕ) → k < i + 1 → P k
below_next P i before here k below = search (arith, nat_tests)

-- what is so of each number below one, and of each that isn't
pub below_all : (P : ℕ → Type 0) (i : ℕ) → ((k : ℕ) → k < i → P k) → ((k : ℕ) → i ≤ k → P k) → (k : ℕ) → P k
below_all P i before past k = search (arith, nat_tests)

-- what is so of the thing at a place is so of each that is there
pub only_there : {X : Type 0} (P : X → Type 0) (xs : List X) (k : ℕ) (x : X) → slice_get xs k ≡ Some x → P x → (y : X) → slice_get xs k ≡ Some y → P y
only_there P xs k x at is y there = let same : x ≡ y = (let both : Some x ≡ Some y = sym at ∙ there in cc) in subst P same is

-- past the end of a list nothing is there
pub none_there : {X : Type 0} (P : X → Type 0) (xs : List X) (k : ℕ) → length xs ≤ k → (y : X) → slice_get xs k ≡ Some y → P y
none_there P xs k past y there = let inside = slice_get_within xs k y there in absurd (let no : ⊥ = omega (arith, inside, past) in no)

-- a test that fails tells that what it tests isn't so
pub fails_by : (P : Type 0) (b : Bool) → (P → IsTrue b) → b ≡ false → P → ⊥
fails_by P b tells is so = let yes : IsTrue b = tells so in let never : false ≡ true = sym is ∙ yes in cc

-- where none fails, it is so of every number
pub first_none : (P : ℕ → Type 0) (o : Option ℕ) → IsFirst P o → ((k : ℕ) → o ≡ Some k → ⊥) → Everywhere P
first_none P o first none = search arith

-- the same number fails first of two words that say the same
pub first_same : (P Q : ℕ → Type 0) (o : Option ℕ) → ((k : ℕ) → P k → Q k) → ((k : ℕ) → Q k → P k) → IsFirst P o → IsFirst Q o
first_same P Q o there back first = search arith

-- of two words together the lower number fails first
pub first_both : (P Q : ℕ → Type 0) (a b : Option ℕ) → IsFirst P a → IsFirst Q b → IsFirst (λ k. P k × Q k) (lower_of a b)
first_both P Q a b first second = search (arith, nat_tests)
