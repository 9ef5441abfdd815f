-- What is promised of the packets that terminals receive.
--     IsDelivered routes net t piece     a received packet is one packet that was sent to t, whole
--     Promise routes net     each received packet is, no two are one, and where all is quiet none is missing
use Rattle.{c104_check.specs.Routes.{Routes, owner, settings_at}, c104_node.specs.{Nodes.{Node, arrived_tokens}, Terminals.sent_tokens}}
use Rattle.c104_node.specs.{Traced.traced_kind, Traces.part, declared.{node.NodeOf.NodeOf, traced.Traced.Traced}}
use Rattle.{c104_plan.specs.declared.ports.Port.Port, c104_regs.specs.declared.settings.Settings.Settings, c104_run.specs.Network.Network}
use Rattle.{c104_run.specs.{Network.terminal_place, QuietNets.IsQuiet}, c104_switch.specs.Headers.header_number}
use Rattle.c104_token.specs.{Cut.whole_pieces, declared.packets.Packet.Packet}
use Rattle.std.specs.Prelude.{Bool, List, None, Option, Some, [], drop, false, if◌then◌else◌, length, nat_le, slice_get, take, true, ℕ, ◌≡◌}

-- whether a packet has a whole header, and its number
abbrev pub has_header : Routes → Packet → Bool
has_header routes p = nat_le routes.header (length p.bytes)

abbrev pub header_of : Routes → Packet → ℕ
header_of routes p = header_number (take routes.header p.bytes)

-- whether headers are deleted where packets go out at this port
abbrev pub deletes : Routes → Port → Bool
deletes routes (Port.Switch s l) = part false (λ (x : Settings). x.delete_header) (slice_get (settings_at routes s) l)
deletes routes (Port.Terminal t) = false

-- how many tokens each packet lacks at its beginning on a wire from this port
abbrev pub cut_at : Routes → Option Port → ℕ
cut_at routes None = 0
cut_at routes (Some p) = if deletes routes p then routes.header else 0

-- the packets that a node sent, in order; a switch sends none
abbrev pub sent_packets : {A : Type 0} → Node A → List Packet
sent_packets (NodeOf.Switch s) = []
sent_packets (NodeOf.Terminal t) = t.sent

-- the tokens that arrived at a terminal, and the packets that it sent
abbrev pub arrived_at : {A : Type 0} → Network A → ℕ → List A
arrived_at net t = part [] arrived_tokens (slice_get net.nodes (terminal_place net.plan t))

abbrev pub sent_at : {A : Type 0} → Network A → ℕ → List Packet
sent_at net t = part [] sent_packets (slice_get net.nodes (terminal_place net.plan t))

-- the whole packets that a terminal received: its tokens, cut after each terminator
abbrev pub received : Network Traced → ℕ → List (List Traced)
received net t = whole_pieces (λ x. x.token) [] (arrived_at net t)

-- what terminal t received is one packet that was sent to it, whole and unmixed. It lacks its header where
-- the link to the terminal deletes it.
pub record IsDelivered (routes : Routes) (net : Network Traced) (t : ℕ) (piece : List Traced) : Type 0 where
  pub terminal : ℕ
  pub number : ℕ
  pub packet : Packet
  pub sent : slice_get (sent_at net terminal) number ≡ Some packet
  pub whole : piece ≡ drop (cut_at routes (routes.peer (Port.Terminal t))) (sent_tokens traced_kind terminal number packet)
  pub complete : has_header routes packet ≡ true
  pub owned : owner routes (header_of routes packet) ≡ Some t

pub record Promise (routes : Routes) (net : Network Traced) : Type 0 where
  -- each received packet is one that was sent there
  pub delivered : (t k : ℕ) (piece : List Traced) → slice_get (received net t) k ≡ Some piece → IsDelivered routes net t piece
  -- no packet is received twice
  pub once : (t u i j : ℕ) (p q : List Traced) → slice_get (received net t) i ≡ Some p → slice_get (received net u) j ≡ Some q →
      (d : IsDelivered routes net t p) (e : IsDelivered routes net u q) → d.terminal ≡ e.terminal → d.number ≡ e.number →
      (t ≡ u) × (i ≡ j)
  -- where no token stands anywhere, each packet with a whole header that has an owner was received by it
  pub all : IsQuiet net → (a n t : ℕ) (p : Packet) → slice_get (sent_at net a) n ≡ Some p → has_header routes p ≡ true →
      owner routes (header_of routes p) ≡ Some t →
      (k : ℕ) × (piece : List Traced) × (slice_get (received net t) k ≡ Some piece) × (d : IsDelivered routes net t piece)
      × (d.terminal ≡ a) × (d.number ≡ n)
