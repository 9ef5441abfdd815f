-- The claims of a switch that its node is ready for, as a loop over the inputs finds them that want an output.
use Rattle.{c104_event.specs.declared.events.Event.Event, c104_node.specs.Nodes.{Node, node_claim}, c104_run.specs.Rounds.claims_of}
use Rattle.{c104_run.specs.Rounds.link_numbers, c104_token.specs.Kinds.Kind, c104_turns.proofs.PartNumbers.{joined_end, joined_next}}
use Rattle.c104_turns.{proofs.PartNumbers.{left_links, next_all, none_all, numbers_map, numbers_none}, specs.Parts.{may_begin, numbers_in}}
use Rattle.std.proofs.Common.{List, None, Option, [], ap, arith, is_some, length, refl, ℕ, ◌*◌, ◌++◌, ◌+◌, ◌<◌, ◌∙◌, ◌≡◌, ◌≤◌}
use Rattle.std.specs.List.{flat_map}

-- an input has a claim of each output
pub claims_sized : (s i : ℕ) → length (claims_of s i) ≡ 32
unfolding link_numbers
claims_sized s i = refl

module _ {A : Type 0} (kind : Kind A) (n : Node A) (s : ℕ) where
  -- an input that claims nothing is ready for no claim
  no_claims : (i : ℕ) → ((o : ℕ) → node_claim i o n ≡ None) → (j : ℕ) → numbers_in (may_begin kind n) j (claims_of s i) ≡ []
  no_claims i none j =
      numbers_map (may_begin kind n) (Event.Claim s i) j link_numbers
      ∙ numbers_none (λ (o : ℕ). is_some (node_claim i o n)) (λ o. ap (λ (r : Option (Node A)). is_some r) (none o)) j link_numbers

  -- the next input that wants an output, and what is found where there is no further one
  pub claims_on : (k from input : ℕ) (so now total : List ℕ) → from ≤ input → input < 32 → ((i o : ℕ) → from ≤ i → i < input → node_claim i o n ≡ None) →
      so ++ numbers_in (may_begin kind n) (k + from * 32) (flat_map (claims_of s) (left_links from)) ≡ total → now ≡ so ++ numbers_in (may_begin kind n) (k + input * 32) (claims_of s input) →
      now ++ numbers_in (may_begin kind n) (k + (input + 1) * 32) (flat_map (claims_of s) (left_links (input + 1))) ≡ total
  unfolding left_links
  claims_on k from input so now total low high none before grown =
      joined_next so (numbers_in (may_begin kind n) (k + input * 32) (claims_of s input)) (numbers_in (may_begin kind n) (k + (input + 1) * 32) (flat_map (claims_of s) (left_links (input + 1)))) (numbers_in (may_begin kind n) (k + from * 32) (flat_map (claims_of s) (left_links from))) total now before
      (next_all (may_begin kind n) (claims_of s) 32 (claims_sized s) k from input low high (λ i above below. no_claims i (λ o. none i o above below)))
      grown

  pub claims_end : (k from : ℕ) (so total : List ℕ) → from ≤ 32 → ((i o : ℕ) → from ≤ i → i < 32 → node_claim i o n ≡ None) → so ++ numbers_in (may_begin kind n) (k + from * 32) (flat_map (claims_of s) (left_links from)) ≡ total → so ≡ total
  unfolding left_links
  claims_end k from so total inside none before =
      joined_end so (numbers_in (may_begin kind n) (k + from * 32) (flat_map (claims_of s) (left_links from))) total before
      (none_all (may_begin kind n) (claims_of s) 32 (claims_sized s) (k + from * 32) from inside (λ i above below. no_claims i (λ o. none i o above below)))
