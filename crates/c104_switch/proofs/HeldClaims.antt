-- The claims that inputs hold: how often each output is among them, where one input changes.
use Rattle.{c104_crossbar.specs.Marks.{ArePartition, bool_number, is_free, times}, c104_switch.specs.Holding.{held_claims, phase_claims}}
use Rattle.{c104_switch.specs.{Phases.is_stream, Switch.{Input, Phase, is_owned, new_input}}, std.proofs.Common.{Bool, List, Some, []}}
use Rattle.std.proofs.Common.{arith, false, refl, replicate, slice_get, slice_set, suc, sym, true, zero, ℕ, ◌++◌, ◌+◌, ◌<◌, ◌||◌, ◌∙◌, ◌∷◌}
use Rattle.std.proofs.{Common.◌≡◌, lemmas.Bool.{Decides.nat_tests, or_parts}}

-- claims one after the other
pub times_append : (o : ℕ) (xs ys : List ℕ) → times o (xs ++ ys) ≡ times o xs + times o ys
times_append o [] ys = omega arith
times_append o (x ∷ xs) ys = let more = times_append o xs ys in omega arith

-- claims of which each output is as often among the one as among the other
pub partition_same : (xs ys : List ℕ) (marks : List Bool) → ((o : ℕ) → times o xs ≡ times o ys) → ArePartition xs marks → ArePartition ys marks
partition_same xs ys marks same partition o = let one = same o in let all = partition o in omega arith

-- an output that is claimed isn't free
pub claimed_not_free : (c : ℕ) (cs : List ℕ) (marks : List Bool) → ArePartition (c ∷ cs) marks → is_free marks c ≡ false
claimed_not_free c cs marks partition = search (arith, nat_tests)

-- an input holds no claim at first
pub held_first : (A : Type 0) (n cap : ℕ) → held_claims {A = A} (replicate n (new_input cap)) ≡ []
held_first A zero size = refl
held_first A (suc n) size = held_first A n size

module _ {A : Type 0} where
  -- the claims of inputs one after the other
  pub held_append : (o : ℕ) (ps qs : List (Input A)) → times o (held_claims (ps ++ qs)) ≡ times o (held_claims ps) + times o (held_claims qs)
  held_append o [] qs = omega arith
  held_append o (p ∷ ps) qs = search (arith, times_append, held_append o ps qs)

  -- where one input changes, its claims do
  pub held_set : (o : ℕ) (ps : List (Input A)) (i : ℕ) (p q : Input A) → slice_get ps i ≡ Some p → times o (held_claims (slice_set ps i q)) + times o (phase_claims p.phase) ≡ times o (held_claims ps) + times o (phase_claims q.phase)
  held_set o [] i p q here = cc
  held_set o (r ∷ ps) zero p q here = search (arith, times_append)
  held_set o (r ∷ ps) (suc i) p q here = search (arith, times_append, held_set o ps i p q here)

  -- an input that streams to an output holds its claim
  pub holds_stream : (o : ℕ) (phase : Phase (List A)) → times o (phase_claims phase) ≡ bool_number (is_stream o phase)
  holds_stream o phase = search (arith, nat_tests)

  -- an output is owned where its claim is held
  pub unowned_unheld : (o : ℕ) (ps : List (Input A)) → times o (held_claims ps) ≡ 0 → is_owned ps o ≡ false
  unowned_unheld o [] none = refl
  unowned_unheld o (p ∷ ps) none = by_stream (is_stream o p.phase) refl (unowned_unheld o ps (omega (arith, parts)))
    where
      parts : times o (phase_claims p.phase) + times o (held_claims ps) ≡ 0
      parts = sym (times_append o (phase_claims p.phase) (held_claims ps)) ∙ none

      by_stream : (streams : Bool) → is_stream o p.phase ≡ streams → is_owned ps o ≡ false → (streams || is_owned ps o) ≡ false
      by_stream streams is rest = search (arith, holds_stream)

  pub owned_held : (o : ℕ) (ps : List (Input A)) → is_owned ps o ≡ false → times o (held_claims ps) ≡ 0
  owned_held o [] none = refl
  owned_held o (p ∷ ps) none =
      let parts = or_parts (is_stream o p.phase) (is_owned ps o) none in
      search (arith, holds_stream, times_append, owned_held o ps parts.1)

  -- a free output isn't owned
  pub free_unowned : (ps : List (Input A)) (marks : List Bool) (o : ℕ) → ArePartition (held_claims ps) marks → is_free marks o ≡ true → is_owned ps o ≡ false
  free_unowned ps marks o partition free = search (arith, unowned_unheld)

  -- an output of the 32 that isn't free is owned
  pub taken_owned : (ps : List (Input A)) (marks : List Bool) (o : ℕ) → ArePartition (held_claims ps) marks → is_free marks o ≡ false → o < 32 → is_owned ps o ≡ true
  taken_owned ps marks o partition taken below = search (arith, owned_held, nat_tests)
