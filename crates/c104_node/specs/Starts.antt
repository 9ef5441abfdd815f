-- The nodes at the start of a run, over any kind of token: no token stands anywhere.
use Rattle.c104_node.specs.{Nodes.Node, TerminalStarts.{IsTerminalStart, start_terminal, terminal_start}, declared.node.NodeOf.NodeOf}
use Rattle.{c104_node.specs.declared.starts.NodeStart.NodeStart, c104_switch.specs.Starts.{IsSwitchStart, start_switch, switch_start}}
use Rattle.std.specs.Prelude.{true, ◌≡◌}

-- a node at a start
abbrev pub start_node : {A : Type 0} → NodeStart → Node A
start_node (NodeStart.Switch s) = NodeOf.Switch (start_switch s)
start_node (NodeStart.Terminal t) = NodeOf.Terminal (start_terminal t)

-- where a node stands, but for its tokens and what it sent and received
abbrev pub start_of : {A : Type 0} → Node A → NodeStart
start_of (NodeOf.Switch s) = NodeStart.Switch (switch_start s)
start_of (NodeOf.Terminal t) = NodeStart.Terminal (terminal_start t)

-- where a node starts: a switch is started, and every start keeps what its type keeps
abbrev pub IsStartedStart : NodeStart → Type 0
IsStartedStart (NodeStart.Switch s) = (s.started ≡ true) × IsSwitchStart s
IsStartedStart (NodeStart.Terminal t) = IsTerminalStart t
