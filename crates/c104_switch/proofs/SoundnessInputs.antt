-- Inputs that stay within their capacity, no two of which stream to one output, where one of them changes.
use Rattle.c104_link.{proofs.MadeSteps.{given, place_after_set}, specs.Buffers.IsWithinCap}
use Rattle.c104_switch.{proofs.SoundnessBuffers.{within_enter, within_grant}, specs.{Phases.is_stream, Soundness.IsExclusive, Switch.Input}}
use Rattle.{c104_switch.specs.Switch.{Phase, Stream, input_accept, input_grant, is_owned}, std.proofs.Common.{List, Some, [], arith, false}}
use Rattle.std.proofs.{Common.{slice_get, slice_set, suc, true, zero, ℕ, ◌==◌, ◌∷◌, ◌≡◌}, lemmas.Bool.{Decides.nat_tests, or_parts}}

module _ {A : Type 0} where
  -- no input but that at place i streams to output o
  abbrev pub IsAlone : List (Input A) → ℕ → ℕ → Type 0
  IsAlone inputs i o = (j : ℕ) (q : Input A) → slice_get inputs j ≡ Some q → q.phase ≡ Stream o → i ≡ j

  -- an input that came of another: within its capacity as that was, and with no new stream
  pub record KeepsInput (p r : Input A) : Type 0 where
    pub within : IsWithinCap p.buffer → IsWithinCap r.buffer
    pub streams : (o : ℕ) → r.phase ≡ Stream o → p.phase ≡ Stream o

  -- inputs stay exclusive where the one that changes is alone in what it streams to
  pub exclusive_set : (inputs : List (Input A)) (i : ℕ) (p : Input A) → ((o : ℕ) → p.phase ≡ Stream o → IsAlone inputs i o) → IsExclusive inputs → IsExclusive (slice_set inputs i p)
  exclusive_set inputs i p alone exclusive j k o q r at_j at_k to_q to_r = search (arith, place_after_set)

  -- an input is alone in what it streams to
  pub alone_at : (inputs : List (Input A)) (i : ℕ) (p : Input A) → slice_get inputs i ≡ Some p → IsExclusive inputs → (o : ℕ) → p.phase ≡ Stream o → IsAlone inputs i o
  alone_at inputs i p here exclusive o to_p j q at_j to_q = exclusive i j o p q here at_j to_p to_q

  -- an input that streams to an output owns it
  stream_owns : (o : ℕ) (phase : Phase (List A)) → phase ≡ Stream o → is_stream o phase ≡ true
  stream_owns o phase is = rw is (let same : (o == o) ≡ true = grind (arith, nat_tests) in same)

  -- no input streams to an output that is not owned
  pub unowned : (inputs : List (Input A)) (o : ℕ) → is_owned inputs o ≡ false → (j : ℕ) (q : Input A) → slice_get inputs j ≡ Some q → q.phase ≡ Stream o → ⊥
  unowned [] o free j q at_j to_q = cc
  unowned (p ∷ inputs) o free zero q at_j to_q = search (arith, or_parts, stream_owns)
  unowned (p ∷ inputs) o free (suc j) q at_j to_q =
      unowned inputs o (or_parts (is_stream o p.phase) (is_owned inputs o) free).1 j q at_j to_q

  -- a token that comes in
  pub keeps_accepted : (x : A) (p r : Input A) → input_accept x p ≡ Some r → KeepsInput p r
  keeps_accepted x p r is = search (arith, given, within_enter)

  -- a grant of eight more tokens
  pub keeps_granted : (p r : Input A) → input_grant p ≡ Some r → KeepsInput p r
  keeps_granted p r is = search (arith, given, within_grant)
