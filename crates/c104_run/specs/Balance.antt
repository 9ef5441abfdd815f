-- What every network keeps: at the two ends of each wire the credit of the one is what the other has
-- granted.
use Rattle.{c104_link.specs.Steps.◌>>=◌, c104_node.specs.{Nodes.{Node, is_switch}, declared.{ends.End.End, node.NodeOf.TheVariants.Switch}}}
use Rattle.{c104_node.specs.declared.node.NodeOf.TheVariants.Terminal, c104_plan.specs.{Plans.Plan, Wiring.peer, declared.ports.Port.Port}}
use Rattle.c104_run.specs.{Ends.end_of, Network.Network}
use Rattle.std.specs.Prelude.{List, Option, Some, false, length, map, replicate, slice_get, true, ℕ, ◌++◌, ◌≡◌}

-- how many tokens a node may send over a link
abbrev pub credit_of : {A : Type 0} → ℕ → Node A → Option ℕ
credit_of l (Switch s) = slice_get s.outputs l >>= (λ q. Some q.credit)
credit_of l (Terminal t) = Some t.output.credit

-- how many tokens a node has granted to the other end of a link's wire
abbrev pub granted_of : {A : Type 0} → ℕ → Node A → Option ℕ
granted_of l (Switch s) = slice_get s.inputs l >>= (λ p. Some p.buffer.granted)
granted_of l (Terminal t) = Some t.input.granted

-- how many tokens may be sent at an end of a wire, where there is such a node and link
abbrev pub credit_at : {A : Type 0} → List (Node A) → End → Option ℕ
credit_at nodes end = slice_get nodes end.node >>= credit_of end.link

-- how many tokens are granted at an end of a wire, where there is such a node and link
abbrev pub granted_at : {A : Type 0} → List (Node A) → End → Option ℕ
granted_at nodes end = slice_get nodes end.node >>= granted_of end.link

-- there is a credit at the one end, and as much is granted at the other
abbrev pub AreLevel : {A : Type 0} → List (Node A) → End → End → Type 0
AreLevel nodes from to =
    (credit : ℕ) × (credit_at nodes from ≡ Some credit) × (granted_at nodes to ≡ Some credit)

-- the invariant of the wires: at each end the credit is what the other end has granted
abbrev pub IsBalanced : {A : Type 0} → Network A → Type 0
IsBalanced net =
    (p q : Port) → peer net.plan p ≡ Some q → AreLevel net.nodes (end_of net.plan p) (end_of net.plan q)

-- the nodes are the plan's switches, and then its terminals
abbrev pub AreInPlace : {A : Type 0} → Plan → List (Node A) → Type 0
AreInPlace plan nodes =
    map is_switch nodes
    ≡ replicate (length plan.switches) true ++ replicate (length plan.terminals) false

-- what the type of a network keeps: each node at its place, and the balance
pub record IsSteady {A : Type 0} (net : Network A) : Type 0 where
  pub in_place : AreInPlace net.plan net.nodes
  pub balanced : IsBalanced net
