-- The places of a network's nodes at which something of a round may begin.
use Rattle.{c104_crossbar.specs.Groups.has_bit, c104_node.specs.{Acts.node_act, Idle.IsIdleNode, Nodes.Node, declared.acts.ActOf.ActOf}}
use Rattle.{c104_plan.specs.Plans.{IsPlan, Plan}, c104_regs.specs.declared.registers.TheConstants.LINKS}
use Rattle.{c104_run.specs.KnownWires.is_linked_end, c104_token.specs.Kinds.Kind}
use Rattle.std.specs.Prelude.{Bool, List, Some, false, is_some, length, nat_le, slice_get, slice_index_or, ℕ, ◌%◌, ◌-◌, ◌/◌, ◌||◌, ◌≡◌}

-- how many places are told apart
abbrev pub told_places : ℕ
told_places = 320

-- whether a place is one of a set, each word of which has 32 places; any further place counts as one of it
abbrev pub is_live : List ℕ → ℕ → Bool
is_live blocks k = nat_le told_places k || has_bit (slice_index_or blocks (k / LINKS) 0) (k % LINKS)

-- nothing of a round can begin at the node at a place, if there is one
pub record IsIdlePlace {A : Type 0} (kind : Kind A) (plan : Plan) (nodes : List (Node A)) (k : ℕ) : Type 0 where
  pub planned : IsPlan plan
  pub idle : (n : Node A) → slice_get nodes k ≡ Some n → IsIdleNode kind (is_linked_end plan k) n

-- so it is at a place that isn't one of the set
pub record AreLive {A : Type 0} (kind : Kind A) (plan : Plan) (blocks : List ℕ) (nodes : List (Node A)) : Type 0 where
  pub planned : IsPlan plan
  pub idle : (k : ℕ) → is_live blocks k ≡ false → IsIdlePlace kind plan nodes k

-- an act at a place is of a round: no node there at which nothing of a round can begin is ready for it
abbrev pub IsOfRound : {A : Type 0} → Kind A → Plan → ℕ → ActOf A → Type 0
IsOfRound {A} kind plan k a =
    (n : Node A) → IsIdleNode kind (is_linked_end plan k) n → is_some (node_act kind (k - length plan.switches) a n) ≡ false
