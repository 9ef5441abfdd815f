-- What is listed of a run: its packets, its links or its rounds, in the order of their table.
--     listed_packets header c      the packets, by sender and number
--     listed_links plan c      the links with a wire: those of the switches, by switch and link, and then those of the terminals
--     listed_rounds c      the rounds that are over, if they are kept, and the one that began last
pub use Rattle.c104_rows.specs.declared.lists.{ListedLink.ListedLink, ListedPacket.ListedPacket}
use Rattle.{c104_plan.specs.{Plans.Plan, Wiring.peer, declared.ports.Port.Port}, c104_regs.specs.declared.registers.TheConstants.LINKS}
use Rattle.c104_rows.specs.{Counts.Counts, Endings.ending_of, Links.{LinkRow, longest_at}, Packets.{Arrival, PacketRow, latency}}
use Rattle.c104_rows.specs.Rounds.{RoundRow}
use Rattle.std.specs.Prelude.{List, None, Option, Some, [], if◌then◌else◌, is_some, ℕ, ◌%◌, ◌++◌, ◌+◌, ◌/◌, ◌∷◌}

-- how long a packet took, if it arrived
abbrev pub latency_of : PacketRow → Option Arrival → Option ℕ
latency_of p None = None
latency_of p (Some a) = Some (latency p a)

-- packet n of terminal t, where headers have this many bytes
abbrev pub packet_listed : ℕ → ℕ → ℕ → PacketRow → ListedPacket
packet_listed header t n p = record { sender = t; number = n; row = p; latency = latency_of p p.arrival; ending = ending_of header p }

-- the packets of terminal t from number n on, and those of terminals from t on
abbrev pub packets_from : ℕ → ℕ → ℕ → List PacketRow → List ListedPacket
packets_from header t n [] = []
packets_from header t n (p ∷ ps) = packet_listed header t n p ∷ packets_from header t (n + 1) ps

abbrev pub senders_from : ℕ → ℕ → List (List PacketRow) → List ListedPacket
senders_from header t [] = []
senders_from header t (ps ∷ senders) = packets_from header t 0 ps ++ senders_from header (t + 1) senders

abbrev pub listed_packets : ℕ → Counts → List ListedPacket
listed_packets header c = senders_from header 0 c.senders

-- a link, of a run in which something was done up to this round
abbrev pub link_listed : ℕ → Port → LinkRow → ListedLink
link_listed last p row = record {
  port = p;
  tokens = row.tokens;
  busy = row.busy;
  packets = row.packets;
  longest = longest_at row last;
  waiting = row.waiting;
}

-- a link is listed if it has a wire
abbrev pub link_if : Plan → ℕ → Port → LinkRow → List ListedLink
link_if plan last p row = if is_some (peer plan p) then link_listed last p row ∷ [] else []

-- the links of switches from place k on, 32 of each switch, and those of terminals from t on
abbrev pub switch_links : Plan → ℕ → ℕ → List LinkRow → List ListedLink
switch_links plan last k [] = []
switch_links plan last k (row ∷ rows) = link_if plan last (Port.Switch (k / LINKS) (k % LINKS)) row ++ switch_links plan last (k + 1) rows

abbrev pub terminal_links : Plan → ℕ → ℕ → List LinkRow → List ListedLink
terminal_links plan last t [] = []
terminal_links plan last t (row ∷ rows) = link_if plan last (Port.Terminal t) row ++ terminal_links plan last (t + 1) rows

abbrev pub listed_links : Plan → Counts → List ListedLink
listed_links plan c = switch_links plan c.active 0 c.links ++ terminal_links plan c.active 0 c.wires

abbrev pub listed_rounds : Counts → List RoundRow
listed_rounds c = c.rounds ++ c.current ∷ []
