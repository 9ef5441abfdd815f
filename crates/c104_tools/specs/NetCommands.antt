-- A network whose nodes keep what they do, as a port: the commands that it was asked, by what its switches
-- kept of them.
use Rattle.{c104_event.specs.declared.faults.EventFault.EventFault, c104_node.specs.{Nodes.Node, Places.room_fault, Traces.full_at}}
use Rattle.c104_node.specs.{Traces.is_trace_full, declared.{acts.{ActOf.ActOf, Entry.Entry}, node.NodeOf.NodeOf}}
use Rattle.{c104_run.specs.NetRecords.NetRecord, c104_switch.specs.{Actions.Reply, declared.actions.{ActionOf.ActionOf, ReplyOf.ReplyOf}}}
use Rattle.{c104_token.specs.declared.tokens.Token.Token, c104_tools.specs.{Ports.{Switches, command_asked}, declared.ports.Asked.Asked}}
use Rattle.std.specs.Prelude.{List, Option, Some, [], if◌then◌else◌, length, map, nat_eq, suc, zero, ℕ, ◌++◌, ◌+◌, ◌<◌, ◌∷◌, ◌≡◌, ◌≤◌, ◌⊎◌}

-- the switches among nodes, in order
abbrev pub switches_of : List (Node Token) → Switches
switches_of [] = []
switches_of (NodeOf.Switch s ∷ nodes) = s ∷ switches_of nodes
switches_of (NodeOf.Terminal t ∷ nodes) = switches_of nodes

-- the command, with its reply, that an entry of a switch is of; none where it is of another act
abbrev pub asked_by : ℕ → ActOf Token → Reply → List Asked
asked_by switch (ActOf.Step (ActionOf.Control command)) (ReplyOf.Control bytes) = command_asked switch command bytes ∷ []
asked_by switch a r = []

-- the commands with a ticket in the trace of a switch: one, or none
abbrev pub trace_commands : ℕ → ℕ → List Entry → List Asked
trace_commands ticket switch [] = []
trace_commands ticket switch (e ∷ trace) =
    (if nat_eq e.ticket ticket then asked_by switch e.act e.reply else []) ++ trace_commands ticket switch trace

-- the same in traces of nodes, the first of them of number n
abbrev pub ticket_commands : ℕ → ℕ → List (List Entry) → List Asked
ticket_commands ticket n [] = []
ticket_commands ticket n (trace ∷ traces) = trace_commands ticket n trace ++ ticket_commands ticket (n + 1) traces

-- the commands in traces with tickets below a given number, in the order of the tickets
abbrev pub first_commands : ℕ → List (List Entry) → List Asked
first_commands zero traces = []
first_commands (suc ticket) traces = first_commands ticket traces ++ ticket_commands ticket 0 traces

-- the commands that a network was asked and that it answered, in the order of their tickets
abbrev pub net_commands : NetRecord → List Asked
net_commands r = first_commands r.count r.traces

-- how many switches a network has, and which
abbrev pub net_switch_count : NetRecord → ℕ
net_switch_count r = length r.network.plan.switches

abbrev pub net_switches : NetRecord → Option Switches
net_switches r = Some (switches_of r.network.nodes)

-- a network leaves a command of a switch unanswered: it has no such switch; or it has, and the trace of the
-- switch is full, or else memory has run out
abbrev pub IsNetUnanswered : NetRecord → ℕ → List ℕ → EventFault → Type 0
IsNetUnanswered r switch command f =
    ((f ≡ EventFault.NoNode) × (net_switch_count r ≤ switch))
    ⊎ ((f ≡ room_fault (full_at (map is_trace_full r.traces) switch)) × (switch < net_switch_count r))

-- a switch's reply to a command
abbrev pub IsControlReply : Reply → Type 0
IsControlReply (ReplyOf.Control bytes) = Unit {0}
IsControlReply r = ⊥
