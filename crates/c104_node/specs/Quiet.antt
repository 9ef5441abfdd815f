-- Quiet networks: no token stands anywhere, and no packet is under way.
use Rattle.{c104_link.specs.Buffers.Outgoing, c104_node.specs.{Nodes.Node, Terminals.terminal_begin, declared.node.NodeOf.NodeOf}}
use Rattle.c104_switch.specs.{Switch.{Input, Switch}, declared.{actions.LinkView.LinkView, phase.Phase.{Phase, TheVariants.{Fresh, Head}}}}
use Rattle.c104_switch.specs.declared.phase.Phase.TheVariants.{Sinking, Stream, Want}
use Rattle.std.specs.Prelude.{All, Bool, None, Option, Some, [], false, nat_eq, true, ◌&&◌, ◌≡◌}

-- no token stands at an input, and it waits for a packet
abbrev pub IsQuietInput : {A : Type 0} → Input A → Type 0
IsQuietInput p = (p.buffer.items ≡ []) × (p.phase ≡ Fresh)

-- no token waits at an output
abbrev pub IsQuietOutput : {A : Type 0} → Outgoing A → Type 0
IsQuietOutput q = q.items ≡ []

-- no token stands at a switch, and no packet is under way in it
abbrev pub IsQuietSwitch : {A : Type 0} → Switch A → Type 0
IsQuietSwitch s = All IsQuietInput s.inputs × All IsQuietOutput s.outputs

-- the same of a node; a terminal holds the tokens that came in and those that wait to go out
abbrev pub IsQuietNode : {A : Type 0} → Node A → Type 0
IsQuietNode (NodeOf.Switch s) = IsQuietSwitch s
IsQuietNode (NodeOf.Terminal t) = (t.input.items ≡ []) × (t.output.items ≡ [])

-- whether an input waits for a packet
abbrev pub is_fresh : {H : Type 0} → Phase H → Bool
is_fresh Fresh = true
is_fresh (Head b) = false
is_fresh (Want b g) = false
is_fresh (Stream o) = false
is_fresh Sinking = false

-- whether no token is seen of a link, and no packet at its input; where there is no link none is
abbrev pub is_quiet_view : Option LinkView → Bool
is_quiet_view None = true
is_quiet_view (Some v) = nat_eq v.input_level 0 && (nat_eq v.output_level 0 && is_fresh v.phase)

-- a terminal that forgets what it sent and what arrived; a switch has nothing to forget
abbrev pub node_begin : {A : Type 0} → Node A → Node A
node_begin (NodeOf.Switch s) = NodeOf.Switch s
node_begin (NodeOf.Terminal t) = NodeOf.Terminal (terminal_begin t)
