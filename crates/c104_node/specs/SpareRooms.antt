-- Memory that is set aside for a node's next act.
use Rattle.{c104_node.specs.{Arrivals.others_in, Nodes.Node, declared.{acts.ActOf.ActOf, node.NodeOf.NodeOf}}, c104_token.specs.Kinds.Kind}
use Rattle.c104_token.specs.declared.packets.Packet.{Packet}
use Rattle.std.specs.Prelude.{Option, Some, length, ℕ, ◌<◌, ◌≡◌}

-- what is set aside: a copy of a packet, and for how many packets, tokens, and tokens that are more than a byte the spare
-- lists have room
pub record SpareRoom : Type 0 where
  pub copy : Option Packet
  pub sent : ℕ
  pub arrived : ℕ
  pub others : ℕ

module _ {A : Type 0} (kind : Kind A) (room : SpareRoom) where
  -- it is enough for a node to send a packet, or for a token to arrive there; a switch does neither
  abbrev pub IsEnoughToSend : Node A → Packet → Type 0
  IsEnoughToSend (NodeOf.Switch s) packet = Unit {0}
  IsEnoughToSend (NodeOf.Terminal t) packet = (room.copy ≡ Some packet) × (length t.sent < room.sent)

  abbrev pub IsEnoughToDrain : Node A → Type 0
  IsEnoughToDrain (NodeOf.Switch s) = Unit {0}
  IsEnoughToDrain (NodeOf.Terminal t) = (length t.arrived < room.arrived) × (others_in kind t.arrived < room.others)

  -- the same of an act; no other act wants memory
  abbrev pub IsEnough : Node A → ActOf A → Type 0
  IsEnough n (ActOf.Send packet) = IsEnoughToSend n packet
  IsEnough n ActOf.Drain = IsEnoughToDrain n
  IsEnough n a = Unit {0}
