-- What waits to go out of a terminal, as a place in what it sent.
pub use Rattle.c104_node.specs.declared.terminal.TerminalPacket.{TerminalPacket}
use Rattle.{c104_node.specs.Terminals.{Terminal, sent_tokens}, c104_token.specs.{Kinds.Kind, declared.packets.Packet.Packet}}
use Rattle.std.specs.Prelude.{List, None, Option, Some, [], drop, length, slice_get, suc, ℕ, ◌++◌, ◌∷◌, ◌≡◌, ◌≤◌}

module _ {A : Type 0} (kind : Kind A) where
  -- all tokens of packets, the first of which has this number
  abbrev pub posted_tokens : ℕ → List TerminalPacket → List A
  posted_tokens n [] = []
  posted_tokens n (p ∷ posted) = sent_tokens kind p.terminal n p.packet ++ posted_tokens (suc n) posted

  -- those from a place of a packet on
  abbrev pub waiting_from : ℕ → ℕ → List TerminalPacket → List A
  waiting_from next place posted = drop place (posted_tokens next (drop next posted))

abbrev pub packet_of : TerminalPacket → Packet
packet_of p = p.packet

-- the place is one of a packet's tokens, or none waits
abbrev pub IsPlace : ℕ → Option TerminalPacket → Type 0
IsPlace place None = place ≡ 0
IsPlace place (Some p) = place ≤ length p.packet.bytes

-- what a terminal keeps of it
pub record IsOutbox {A : Type 0} (kind : Kind A) (next place waiting : ℕ) (posted : List TerminalPacket) : Type 0 where
  pub inside : next ≤ length posted
  pub placed : IsPlace place (slice_get posted next)
  pub counted : waiting ≡ length (waiting_from kind next place posted)

-- the first token that waits is taken, if one waits
abbrev pub taken_of : {A : Type 0} → Terminal A → List A → Option A × Terminal A
taken_of t [] = (None, t)
taken_of t (x ∷ xs) = (Some x, record t { output = record { items = xs; credit = t.output.credit } })

abbrev pub waiting_taken : {A : Type 0} → Terminal A → Option A × Terminal A
waiting_taken t = taken_of t t.output.items
