-- The parts of a round that are about ports: the event of each port, and whether the near end is ready for it.
use Rattle.c104_node.specs.{Acts.{node_act, nodes_act}, Nodes.Node, PortActs.near_act, declared.acts.ActOf.ActOf}
use Rattle.c104_node.specs.declared.{crossings.Crossing.Crossing, node.NodeOf.TheVariants.{Switch, Terminal}, port_part.PortPart.PortPart}
use Rattle.{c104_node.specs.declared.port_part.PortPart.TheVariants.{Credit, Cross, Turn}, c104_plan.specs.declared.ports.Port.Port}
use Rattle.{c104_switch.specs.{Readiness.may_turn_at, declared.actions.ActionOf.ActionOf}, c104_token.specs.Kinds.Kind}
use Rattle.std.specs.{Option.option_map_or, Prelude.{Bool, List, false, is_some, slice_get, true, ℕ, ◌≡◌}}

-- the act of a switch in a part, at a link
abbrev pub part_act : {A : Type 0} → PortPart → ℕ → ActOf A
part_act Credit l = ActOf.Step (ActionOf.CreditOut l)
part_act Cross l = ActOf.Step (ActionOf.Leave l)
part_act Turn l = ActOf.Step (ActionOf.Input l 0)

-- whether a node is ready for it
abbrev pub is_node_ready : {A : Type 0} → Kind A → PortPart → ℕ → Node A → Bool
is_node_ready kind part l n = is_some (node_act kind 0 (part_act part l) n)

-- whether the node at a switch's place is ready for its act of a part, at a link
abbrev pub is_ready_at : {A : Type 0} → Kind A → PortPart → List (Node A) → ℕ → ℕ → Bool
is_ready_at kind part nodes place l = is_some (nodes_act kind nodes place 0 (part_act part l))

-- the near end of a wire is ready, where a part has something cross from there
abbrev pub IsNearReady : {A : Type 0} → Kind A → PortPart → List (Node A) → ℕ → Port → Type 0
IsNearReady kind Credit nodes place p = is_some (nodes_act kind nodes place 0 (near_act Crossing.Grant p)) ≡ true
IsNearReady kind Cross nodes place p = is_some (nodes_act kind nodes place 0 (near_act Crossing.Token p)) ≡ true
IsNearReady kind Turn nodes place p = Unit {0}

-- whether a node may do its act of a part at a link: where it may not, it isn't ready. An input may take a turn that has a
-- token and doesn't want an output
abbrev pub may_act : {A : Type 0} → Kind A → PortPart → ℕ → Node A → Bool
may_act kind Credit l n = is_node_ready kind Credit l n
may_act kind Cross l n = is_node_ready kind Cross l n
may_act kind Turn l (Switch s) = may_turn_at s.inputs l
may_act kind Turn l (Terminal t) = false

-- the same of the node at a switch's place
abbrev pub may_act_at : {A : Type 0} → Kind A → PortPart → List (Node A) → ℕ → ℕ → Bool
may_act_at kind part nodes place l = option_map_or (may_act kind part l) (slice_get nodes place) false
