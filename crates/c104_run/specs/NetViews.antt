-- What can be seen of the nodes of a network, by their numbers in its plan.
use Rattle.c104_node.specs.Views.{nodes_input_token, nodes_link_view, nodes_output_token, nodes_sent_packet, nodes_terminal_view}
use Rattle.{c104_node.specs.declared.terminal.views.TerminalView.TerminalView, c104_plan.specs.declared.ports.Port.Port}
use Rattle.{c104_run.specs.Network.{Network, terminal_place}, c104_switch.specs.declared.actions.LinkView.LinkView}
use Rattle.c104_token.specs.{Kinds.Kind, declared.packets.Packet.Packet}
use Rattle.std.specs.Prelude.{None, Option, if◌then◌else◌, length, nat_lt, ℕ}

-- what is seen of a terminal of the network
abbrev pub network_terminal_view : {A : Type 0} → Network A → ℕ → Option TerminalView
network_terminal_view net t =
    if nat_lt t (length net.plan.terminals)
    then nodes_terminal_view net.nodes (terminal_place net.plan t)
    else None

-- the token at place k of what came in at a port of the network
abbrev pub network_input_token : {A : Type 0} → Network A → Port → ℕ → Option A
network_input_token net (Port.Switch s l) k =
    if nat_lt s (length net.plan.switches) then nodes_input_token net.nodes s l k else None
network_input_token net (Port.Terminal t) k =
    if nat_lt t (length net.plan.terminals)
    then nodes_input_token net.nodes (terminal_place net.plan t) 0 k
    else None

-- the token at place k of the output of a switch's link in the network
abbrev pub network_output_token : {A : Type 0} → Network A → ℕ → ℕ → ℕ → Option A
network_output_token net s l k =
    if nat_lt s (length net.plan.switches) then nodes_output_token net.nodes s l k else None

-- packet n of those that a terminal of the network sent
abbrev pub network_sent_packet : {A : Type 0} → Network A → ℕ → ℕ → Option Packet
network_sent_packet net t n =
    if nat_lt t (length net.plan.terminals)
    then nodes_sent_packet net.nodes (terminal_place net.plan t) n
    else None

module _ {A : Type 0} (kind : Kind A) where
  -- what is seen of a link of a switch of the network
  abbrev pub network_link_view : Network A → ℕ → ℕ → Option LinkView
  network_link_view net s l =
      if nat_lt s (length net.plan.switches) then nodes_link_view kind net.nodes s l else None
