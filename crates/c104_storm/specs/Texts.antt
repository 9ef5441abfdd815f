-- What a storm prints at its end.
use Rattle.c104_event.specs.{EventFaults.{event_fault_name, event_fault_number}, declared.faults.EventFault.EventFault}
use Rattle.{c104_node.specs.declared.origins.Origin.Origin, c104_plan.specs.{Plans.Plan, PortTexts.terminal_name}}
use Rattle.c104_token.specs.{Text.packet_text, declared.packets.Packet.Packet}
use Rattle.std.specs.{Fmt.decimal, Prelude.{List, [], codes, ℕ, ◌++◌}}

-- the line of a storm whose tokens go nowhere
abbrev pub not_quiet_line : List ℕ
not_quiet_line = codes "not quiet\n"

-- the line of a worker that stopped, by its number and its fault
abbrev pub stop_line : ℕ → EventFault → List ℕ
stop_line worker kind =
    codes "worker "
    ++ (decimal worker ++ (codes " " ++ (decimal (event_fault_number kind) ++ (codes " " ++ (event_fault_name kind ++ codes "\n")))))

-- the line of a storm of which all is one run
abbrev pub audited_line : List ℕ
audited_line = codes "audit ok\n"

-- where a packet came from: its sender, and its number there
abbrev pub sender_text : Plan → Origin → List ℕ
sender_text plan origin = codes " from " ++ (terminal_name plan origin.terminal ++ (codes " " ++ decimal origin.number))

-- the line of a packet of this origin that arrived at a terminal
abbrev pub arrival_line : Plan → ℕ → Packet → Origin → List ℕ
arrival_line plan terminal packet origin =
    terminal_name plan terminal ++ (codes ": " ++ (packet_text packet ++ (sender_text plan origin ++ codes "\n")))
