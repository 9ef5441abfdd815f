-- A terminal: what it has sent and what arrived, and the two ends of its wire. A terminal needs no start.
use Rattle.c104_link.specs.{Buffers.{Incoming, Outgoing, empty_incoming, empty_outgoing, without_first}, Steps.◌>>=◌}
use Rattle.c104_token.specs.{Kinds.Kind, Packets.packet_tokens, declared.{packets.Packet.Packet, tokens.Token.Token}}
use Rattle.std.specs.Prelude.{List, Option, Some, [], length, slice_get, suc, ℕ, ◌++◌, ◌∷◌}
use Rattle.c104_link.specs.Buffers as buffer

-- a terminal: the two sides of its one link, what it sent, and what arrived
pub record Terminal (A : Type 0) : Type 0 where
  pub input : Incoming A
  -- what waits to go out, and the credit
  pub output : Outgoing A
  -- the packets that it sent, in order
  pub sent : List Packet
  -- the tokens that arrived, in order
  pub arrived : List A

-- a terminal at first: nothing was sent, and nothing came
abbrev pub new_terminal : {A : Type 0} → ℕ → Terminal A
new_terminal cap = record { input = empty_incoming cap; output = empty_outgoing; sent = []; arrived = [] }

-- the terminal with this input buffer
abbrev pub with_input : {A : Type 0} → Terminal A → Incoming A → Terminal A
with_input t b = record t { input = b }

-- the terminal with this output buffer
abbrev pub with_output : {A : Type 0} → Terminal A → Outgoing A → Terminal A
with_output t q = record t { output = q }

-- a token comes in from the wire
abbrev pub terminal_enter : {A : Type 0} → A → Terminal A → Option (Terminal A)
terminal_enter x t = do
  b ← buffer.incoming_accept x t.input
  Some (with_input t b)

-- the first token that waits goes out to the wire
abbrev pub terminal_leave : {A : Type 0} → Terminal A → Option (A × Terminal A)
terminal_leave t = do
  r ← buffer.outgoing_emit t.output
  Some (r.0, with_output t r.1)

-- the terminal grants eight more tokens
abbrev pub terminal_credit_out : {A : Type 0} → Terminal A → Option (Terminal A)
terminal_credit_out t = do
  b ← buffer.incoming_grant t.input
  Some (with_input t b)

-- the terminal may send eight more tokens
abbrev pub terminal_credit_in : {A : Type 0} → Terminal A → Option (Terminal A)
terminal_credit_in t = do
  q ← buffer.outgoing_credited t.output
  Some (with_output t q)

-- the first token that came in arrives
abbrev pub terminal_drain : {A : Type 0} → Terminal A → Option (A × Terminal A)
terminal_drain t = do
  x ← slice_get t.input.items 0
  Some (x, record t { input = without_first t.input; arrived = t.arrived ++ x ∷ [] })

-- the terminal forgets what it sent and what arrived
abbrev pub terminal_begin : {A : Type 0} → Terminal A → Terminal A
terminal_begin t = record t { sent = []; arrived = [] }

module _ {A : Type 0} (kind : Kind A) where
  -- these tokens of a packet from a place on, as a terminal sends them
  abbrev pub sent_from : ℕ → ℕ → ℕ → List Token → List A
  sent_from terminal number place [] = []
  sent_from terminal number place (x ∷ xs) =
      kind.sent terminal number place x ∷ sent_from terminal number (suc place) xs

  -- the tokens of a terminal's packet of this number
  abbrev pub sent_tokens : ℕ → ℕ → Packet → List A
  sent_tokens terminal number packet = sent_from terminal number 0 (packet_tokens packet)

  -- a packet's tokens join those that wait to go out; packets are numbered from 0 as they are sent
  abbrev pub terminal_send : ℕ → Packet → Terminal A → Terminal A
  terminal_send terminal packet t = record t {
    output = record {
      items = t.output.items ++ sent_tokens terminal (length t.sent) packet;
      credit = t.output.credit;
    };
    sent = t.sent ++ packet ∷ [];
  }
