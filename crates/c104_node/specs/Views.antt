-- What can be seen of the nodes of a network: of a switch each of its links, a terminal, the tokens that wait in them,
-- and the packets that were sent.
use Rattle.{c104_link.specs.Steps.◌>>=◌, c104_node.specs.{Nodes.{Node, node_leave}, declared.node.NodeOf.TheVariants.{Switch, Terminal}}}
use Rattle.{c104_node.specs.declared.terminal.views.TerminalView.TerminalView, c104_switch.specs.Views.{input_token, link_view}}
use Rattle.{c104_switch.specs.{Views.output_token, declared.actions.LinkView.LinkView}, c104_token.specs.Kinds.Kind}
use Rattle.c104_token.specs.declared.packets.Packet.{Packet}
use Rattle.std.specs.Prelude.{List, None, Option, Some, length, slice_get, ℕ}
use Rattle.c104_node.specs.Terminals as terminal

-- what is seen of a terminal
abbrev pub terminal_view : {A : Type 0} → terminal.Terminal A → TerminalView
terminal_view t = record {
  waiting = length t.output.items;
  undrained = length t.input.items;
  credit = t.output.credit;
  granted = t.input.granted;
}

-- what is seen of a node, if it is a terminal
abbrev pub node_terminal_view : {A : Type 0} → Node A → Option TerminalView
node_terminal_view (Switch s) = None
node_terminal_view (Terminal t) = Some (terminal_view t)

-- the same of the node at this place
abbrev pub nodes_terminal_view : {A : Type 0} → List (Node A) → ℕ → Option TerminalView
nodes_terminal_view nodes place = slice_get nodes place >>= node_terminal_view

-- the token that would go out next over link l of a node, if one can
abbrev pub node_next_token : {A : Type 0} → ℕ → Node A → Option A
node_next_token l n = node_leave l n >>= (λ r. Some r.0)

-- the token at place k of what came in over link l of a node; a terminal has one link
abbrev pub node_input_token : {A : Type 0} → ℕ → ℕ → Node A → Option A
node_input_token l k (Switch s) = input_token s l k
node_input_token l k (Terminal t) = slice_get t.input.items k

-- the same of the node at this place
abbrev pub nodes_input_token : {A : Type 0} → List (Node A) → ℕ → ℕ → ℕ → Option A
nodes_input_token nodes place l k = slice_get nodes place >>= node_input_token l k

-- the token at place k of the output of link l of a node, if it is a switch
abbrev pub node_output_token : {A : Type 0} → ℕ → ℕ → Node A → Option A
node_output_token l k (Switch s) = output_token s l k
node_output_token l k (Terminal t) = None

-- the same of the node at this place
abbrev pub nodes_output_token : {A : Type 0} → List (Node A) → ℕ → ℕ → ℕ → Option A
nodes_output_token nodes place l k = slice_get nodes place >>= node_output_token l k

-- packet n of those that a node sent, if it is a terminal
abbrev pub node_sent_packet : {A : Type 0} → ℕ → Node A → Option Packet
node_sent_packet n (Switch s) = None
node_sent_packet n (Terminal t) = slice_get t.sent n

-- the same of the node at this place
abbrev pub nodes_sent_packet : {A : Type 0} → List (Node A) → ℕ → ℕ → Option Packet
nodes_sent_packet nodes place n = slice_get nodes place >>= node_sent_packet n

module _ {A : Type 0} (kind : Kind A) where
  -- what is seen of a link of a node, if it is a switch
  abbrev pub node_link_view : ℕ → Node A → Option LinkView
  node_link_view l (Switch s) = link_view kind s l
  node_link_view l (Terminal t) = None

  -- the same of the node at this place
  abbrev pub nodes_link_view : List (Node A) → ℕ → ℕ → Option LinkView
  nodes_link_view nodes place l = slice_get nodes place >>= node_link_view l
