-- Marks of which none is set.
use Rattle.{c104_crossbar.specs.Marks.is_free, std.proofs.Common.{arith, false, nat_lt, replicate, suc, zero, ℕ, ◌≡◌}}
use Rattle.std.proofs.lemmas.Bool.Decides.{nat_tests}

pub is_free-replicate : (n o : ℕ) → is_free (replicate n false) o ≡ nat_lt o n
is_free-replicate zero o = grind (arith, nat_tests)
is_free-replicate (suc n) zero = grind (arith, nat_tests)
is_free-replicate (suc n) (suc o) = rw (is_free-replicate n o) (grind (arith, nat_tests))
