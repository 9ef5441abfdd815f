-- What a round notes of the switches after their turns, in sets: what isn't in one begins nothing of the kind.
use Rattle.c104_node.specs.{Nodes.{Node, node_claim}, PortParts.is_node_ready, declared.{ends.End.End, port_part.PortPart.PortPart}}
use Rattle.{c104_plan.specs.{Plans.Plan, declared.ports.Port.Port}, c104_regs.specs.declared.registers.TheConstants.LINKS}
use Rattle.{c104_run.specs.{EventActs.port_place, FarEnds.far_end, LivePlaces.is_live, Rounds.is_wired}, c104_token.specs.Kinds.Kind}
use Rattle.std.specs.Prelude.{List, None, Some, false, length, slice_get, true, ℕ, ◌<◌, ◌≡◌, ◌≢◌, ◌≤◌}

-- no input of a node claims an output
abbrev pub ClaimsNone : {A : Type 0} → ℕ → Node A → Type 0
ClaimsNone k n = (i o : ℕ) → i < LINKS → node_claim i o n ≡ None

-- a node grants nothing at its wired links
abbrev pub GrantsNone : {A : Type 0} → Kind A → Plan → ℕ → Node A → Type 0
GrantsNone kind plan k n =
    (l : ℕ) → l < LINKS → is_wired plan (Port.Switch k l) ≡ true → is_node_ready kind PortPart.Credit l n ≡ false

-- so is the node at a place, unless that is one of a set
abbrev pub IsSoAt : {A : Type 0} → (ℕ → Node A → Type 0) → List ℕ → List (Node A) → ℕ → Type 0
IsSoAt {A} so blocks nodes k = is_live blocks k ≡ false → (n : Node A) → slice_get nodes k ≡ Some n → so k n

-- so it is at the places from one on and below another
pub record AreSo {A : Type 0} (so : ℕ → Node A → Type 0) (blocks : List ℕ) (nodes : List (Node A)) (from below : ℕ) : Type 0 where
  pub each : (k : ℕ) → from ≤ k → k < below → IsSoAt so blocks nodes k

-- those that aren't noted claim nothing, and grant nothing
pub record AreNoted {A : Type 0} (kind : Kind A) (plan : Plan) (claiming granting : List ℕ) (nodes : List (Node A)) : Type 0 where
  pub claims : AreSo ClaimsNone claiming nodes 0 (length plan.switches)
  pub grants : AreSo (GrantsNone kind plan) granting nodes 0 (length plan.switches)

-- the nodes at all other places stay
pub record LeavesOthers {A : Type 0} (k : ℕ) (olds news : List (Node A)) : Type 0 where
  pub stay : (j : ℕ) → j ≢ k → slice_get news j ≡ slice_get olds j

-- at all other places those stay that aren't in a set, which may have grown
pub record LeavesUnnoted {A : Type 0} (k : ℕ) (blocks : List ℕ) (olds : List (Node A)) (more : List ℕ) (news : List (Node A))
    : Type 0 where
  pub stay : (j : ℕ) → j ≢ k → is_live more j ≡ false → (is_live blocks j ≡ false) × (slice_get news j ≡ slice_get olds j)

-- the nodes at all places stay but for those at both ends of the wire at a port
abbrev pub LeavesEnds : {A : Type 0} → Plan → Port → List (Node A) → List (Node A) → Type 0
LeavesEnds plan p olds news =
    (far : End) → far_end plan p ≡ Some far → (j : ℕ) → j ≢ port_place plan p → j ≢ far.node → slice_get news j ≡ slice_get olds j
