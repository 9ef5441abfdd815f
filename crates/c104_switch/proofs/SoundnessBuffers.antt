-- Each step of a buffer keeps it within its bounds.
use Rattle.c104_link.{proofs.MadeSteps.{given, holds_under}, specs.Buffers.{Incoming, IsValidCap, IsWithinCap, IsWithinLimits, Outgoing}}
use Rattle.c104_link.specs.Buffers.{empty_incoming, empty_outgoing, incoming_accept, incoming_grant, outgoing_credited, outgoing_emit}
use Rattle.{c104_link.specs.Buffers.{outgoing_put, outgoing_put_all, without_first}, std.proofs.Common.{List, Some, arith, length-append}}
use Rattle.std.proofs.{Common.{length-drop, ℕ, ◌≡◌}, lemmas.{Bool.Decides.nat_tests, List.length_push}}

module _ {A : Type 0} where
  -- a new input buffer is within its capacity
  pub within_empty_in : (cap : ℕ) → IsValidCap cap → IsWithinCap {A = A} (empty_incoming cap)
  within_empty_in cap valid = record { room = omega arith; valid = valid }

  -- a token that comes in uses one that was granted
  pub within_enter : (x : A) (b c : Incoming A) → incoming_accept x b ≡ Some c → IsWithinCap b → IsWithinCap c
  within_enter x b c is within = search (arith, holds_under, length_push, nat_tests)

  -- eight more are granted where there is room for them
  pub within_grant : (b c : Incoming A) → incoming_grant b ≡ Some c → IsWithinCap b → IsWithinCap c
  within_grant b c is within = search (arith, holds_under, nat_tests)

  -- a buffer without its first token is within the same bounds
  pub within_without_first : (b : Incoming A) → IsWithinCap b → IsWithinCap (without_first b)
  within_without_first b within = search (arith, length-drop)

  -- a new output buffer is within its limits
  pub within_empty_out : IsWithinLimits {A = A} empty_outgoing
  within_empty_out = record { room = omega arith; credit = omega arith }

  -- a token joins where there are fewer than eight
  pub within_put : (x : A) (q r : Outgoing A) → outgoing_put x q ≡ Some r → IsWithinLimits q → IsWithinLimits r
  within_put x q r is within = search (arith, holds_under, length_push, nat_tests)

  -- several tokens join where they are then at most eight
  pub within_put_all : (xs : List A) (q r : Outgoing A) → outgoing_put_all xs q ≡ Some r → IsWithinLimits q → IsWithinLimits r
  within_put_all xs q r is within = search (arith, holds_under, length-append, nat_tests)

  -- the first token goes out, and one credit with it
  pub within_leave : (q : Outgoing A) (r : A × Outgoing A) → outgoing_emit q ≡ Some r → IsWithinLimits q → IsWithinLimits r.1
  within_leave q r is within = search (arith, given, holds_under, length-drop)

  -- eight more credits come where they are then at most 64
  pub within_credited : (q r : Outgoing A) → outgoing_credited q ≡ Some r → IsWithinLimits q → IsWithinLimits r
  within_credited q r is within = search (arith, holds_under, nat_tests)
