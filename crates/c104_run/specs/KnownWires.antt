-- What places keep of the links of their nodes: those that have wires in the plan.
use Rattle.c104_node.specs.{ActLinks.port_link, Places.PlaceBase, Records.{NodeRecord, NodeRoom, has_link}, WiredPlaces.links_at}
use Rattle.{c104_plan.specs.{Plans.Plan, Wiring.peer, declared.ports.Port.Port}, c104_run.specs.{EventActs.port_place, Rounds.is_wired}}
use Rattle.std.specs.Prelude.{Bool, IfSome, List, Some, if◌then◌else◌, length, nat_eq, nat_lt, slice_get, true, ℕ, ◌&&◌, ◌-◌, ◌≡◌}

-- whether a link of the node at this place has a wire; a terminal's one link is 0
abbrev pub is_linked_end : Plan → ℕ → ℕ → Bool
is_linked_end plan k l =
    if nat_lt k (length plan.switches) then is_wired plan (Port.Switch k l)
    else nat_eq l 0 && is_wired plan (Port.Terminal (k - length plan.switches))

-- what is kept of the places of a plan's nodes knows each wire at both its ends, and, where it is kept, exactly the
-- links that have wires
pub record KnowWires (plan : Plan) (bases : List PlaceBase) : Type 0 where
  pub ends : (p q : Port) → peer plan p ≡ Some q →
      (links_at bases (port_place plan p) (port_link p) ≡ true) × (links_at bases (port_place plan q) (port_link q) ≡ true)
  pub exact : (k : ℕ) (b : PlaceBase) → slice_get bases k ≡ Some b →
      IfSome b.wired (λ (wired : ℕ → Bool). (l : ℕ) → wired l ≡ is_linked_end plan k l)

-- the wired links of nodes are those of the plan at their places
abbrev pub AreLinkedNodes : Plan → List (NodeRecord × NodeRoom) → Type 0
AreLinkedNodes plan nodes = (k : ℕ) (n : NodeRecord × NodeRoom) → slice_get nodes k ≡ Some n →
    (l : ℕ) → has_link n.0.wired l ≡ is_linked_end plan k l
