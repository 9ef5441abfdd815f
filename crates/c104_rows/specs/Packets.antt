-- What is counted of a packet.
pub use Rattle.c104_rows.specs.declared.packets.{Arrival.Arrival, PacketRow.PacketRow}
use Rattle.c104_rows.specs.{Links.first_of, Numbers.few}
use Rattle.std.specs.Prelude.{List, None, Option, Some, false, length, slice_get, slice_set, take, true, ℕ, ◌+◌, ◌-◌}

-- a packet of this many bytes that is sent in this round
abbrev pub sent_packet : ℕ → ℕ → PacketRow
sent_packet bytes round = record { bytes = bytes; sent = round; left = None; arrival = None; wires = 0; idle = 0; is_inside = false }

-- packets without the one that was sent last
abbrev pub all_but_last : List PacketRow → List PacketRow
all_but_last packets = take (length packets - 1) packets

-- a packet of which a token left its sender in this round: that counts if it is the first
abbrev pub left_packet : ℕ → PacketRow → PacketRow
left_packet round p = record p { left = Some (first_of p.left round) }

-- a packet whose terminator crossed one wire more, which it held for this many rounds in which it moved nothing there
abbrev pub crossed_packet : ℕ → PacketRow → PacketRow
crossed_packet idle p = record p { wires = few (p.wires + 1); idle = few (p.idle + idle) }

-- a packet whose terminator arrived
abbrev pub arrived_packet : Arrival → PacketRow → PacketRow
arrived_packet arrival p = record p { arrival = Some arrival }

-- a packet whose terminator is in the network, or waits at its sender
abbrev pub inside_packet : PacketRow → PacketRow
inside_packet p = record p { is_inside = true }

-- how many rounds a packet took that arrived, from the one in which it was sent
abbrev pub latency : PacketRow → Arrival → ℕ
latency p a = a.round - p.sent

module _ {X : Type 0} where
  -- a change of one thing of a list, if it is there
  abbrev pub changed_by : List X → ℕ → (X → X) → Option X → List X
  changed_by xs i f None = xs
  changed_by xs i f (Some x) = slice_set xs i (f x)

  abbrev pub change_at : List X → ℕ → (X → X) → List X
  change_at xs i f = changed_by xs i f (slice_get xs i)
