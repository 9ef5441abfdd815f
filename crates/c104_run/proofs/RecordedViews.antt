-- What is seen of a network over any kind of token is what is seen over plain tokens.
use Rattle.{c104_event.specs.declared.events.Event.Event, c104_link.specs.{Buffers.{Incoming, Outgoing}, Steps.◌>>=◌}}
use Rattle.c104_node.specs.{MappedNodes.{map_input, map_node, map_outgoing}, NodeReasons.{node_claim_why, node_drain_why, node_input_why}}
use Rattle.c104_node.specs.{Nodes.{Node, node_peek}, PortActs.Acts, Views.{node_link_view, node_sent_packet, node_terminal_view}}
use Rattle.{c104_node.specs.declared.crossings.Crossing.Crossing, c104_regs.specs.declared.settings.Settings.Settings}
use Rattle.c104_run.proofs.{ActAnswers.{acts_plain, plain_acts}, FirstRecords.map_twice, RecordedStages.plain_network, SwitchMaps.owner_map}
use Rattle.c104_run.{proofs.{SwitchMaps.registers_map, TokenMaps.map_phase}, specs.{EventActs.event_acts, NetViews.network_link_view}}
use Rattle.c104_run.specs.{NetViews.{network_sent_packet, network_terminal_view}, Network.{Network, event_fault, network_peek}}
use Rattle.c104_run.specs.{Network.terminal_place, Reasons.{acts_why, event_why, far_why, near_why, network_why, unless_refused}}
use Rattle.{c104_run.specs.Standstill.have_reasons, c104_switch.specs.Reasons.{emit_why, grant_why, has_room, turn_why, wanted_why, why_at}}
use Rattle.c104_switch.specs.{Switch.Input, Views.{phase_view, sides_view}, declared.{phase.Phase.Phase, unready.Unready.Unready}}
use Rattle.{c104_token.specs.{Kinds.{Kind, plain_kind}, declared.tokens.Token.Token}, std.proofs.Common.{List, None, Option, ap, arith}}
use Rattle.std.proofs.{Common.{if◌then◌else◌, length, map, nat_lt, option_map, refl, slice_get, ℕ, ◌∙◌, ◌≡◌}, lemmas.List.length-map}
use Rattle.std.proofs.lemmas.Option.{slice_get-map}

bind_plain : {X Y Z : Type 0} (f : X → Y) (g : X → Option Z) (h : Y → Option Z) → ((x : X) → h (f x) ≡ g x) → (o : Option X) → (option_map f o >>= h) ≡ (o >>= g)
bind_plain f g h same o = search arith

module _ {A : Type 0} (kind : Kind A) where
  -- of the node at a place
  there_plain : {Z : Type 0} (g : Node A → Option Z) (h : Node Token → Option Z) → ((n : Node A) → h (map_node kind.plain n) ≡ g n) → (nodes : List (Node A)) (k : ℕ) → (slice_get (map (map_node kind.plain) nodes) k >>= h) ≡ (slice_get nodes k >>= g)
  there_plain g h same nodes k = ap (λ o. o >>= h) (slice_get-map (map_node kind.plain) nodes k) ∙ bind_plain (map_node kind.plain) g h same (slice_get nodes k)

  peek_plain : (a : ℕ) (n : Node A) → node_peek a (map_node kind.plain n) ≡ node_peek a n
  peek_plain a n = search (arith, registers_map)

  pub network_peek_plain : (net : Network A) (s a : ℕ) → network_peek (plain_network kind net) s a ≡ network_peek net s a
  network_peek_plain net s a = ap (λ o. if nat_lt s (length net.plan.switches) then o else None) (there_plain (node_peek a) (node_peek a) (peek_plain a) net.nodes s)

  phase_plain : (ph : Phase (List A)) → phase_view plain_kind (map_phase kind.plain ph) ≡ phase_view kind ph
  phase_plain ph = search (arith, map_twice)

  sides_plain : (inputs : List (Input A)) (l : ℕ) (p : Input A) (q : Outgoing A) → sides_view plain_kind (map (map_input kind.plain) inputs) l (map_input kind.plain p) (map_outgoing kind.plain q) ≡ sides_view kind inputs l p q
  sides_plain inputs l p q = rw (length-map p.buffer.items kind.plain, length-map q.items kind.plain, owner_map kind.plain 0 inputs l, phase_plain p.phase) refl

  link_plain : (l : ℕ) (n : Node A) → node_link_view plain_kind l (map_node kind.plain n) ≡ node_link_view kind l n
  link_plain l n = search (arith, slice_get-map, bind_plain, sides_plain)

  pub network_link_plain : (net : Network A) (s l : ℕ) → network_link_view plain_kind (plain_network kind net) s l ≡ network_link_view kind net s l
  network_link_plain net s l = ap (λ o. if nat_lt s (length net.plan.switches) then o else None) (there_plain (node_link_view kind l) (node_link_view plain_kind l) (link_plain l) net.nodes s)

  terminal_plain : (n : Node A) → node_terminal_view (map_node kind.plain n) ≡ node_terminal_view n
  terminal_plain n = search (arith, length-map)

  pub network_terminal_plain : (net : Network A) (t : ℕ) → network_terminal_view (plain_network kind net) t ≡ network_terminal_view net t
  network_terminal_plain net t = ap (λ o. if nat_lt t (length net.plan.terminals) then o else None) (there_plain node_terminal_view node_terminal_view terminal_plain net.nodes (terminal_place net.plan t))

  sent_plain : (number : ℕ) (n : Node A) → node_sent_packet number (map_node kind.plain n) ≡ node_sent_packet number n
  sent_plain number n = search arith

  pub network_sent_plain : (net : Network A) (t number : ℕ) → network_sent_packet (plain_network kind net) t number ≡ network_sent_packet net t number
  network_sent_plain net t number = ap (λ o. if nat_lt t (length net.plan.terminals) then o else None) (there_plain (node_sent_packet number) (node_sent_packet number) (sent_plain number) net.nodes (terminal_place net.plan t))

  -- reasons
  why_plain : {X Y : Type 0} (f : X → Y) (g : X → Option Unready) (h : Y → Option Unready) → ((x : X) → h (f x) ≡ g x) → (xs : List X) (l : ℕ) → why_at (map f xs) l h ≡ why_at xs l g
  why_plain f g h same xs l = search (arith, slice_get-map)

  why_same : {X : Type 0} (g h : X → Option Unready) → ((x : X) → h x ≡ g x) → (xs : List X) (l : ℕ) → why_at xs l h ≡ why_at xs l g
  why_same g h same xs l = search arith

  emit_plain : (q : Outgoing A) → emit_why (map_outgoing kind.plain q) ≡ emit_why q
  emit_plain q = rw (length-map q.items kind.plain) refl

  grant_plain : (b : Incoming A) → grant_why (record { cap = b.cap; items = map kind.plain b.items; granted = b.granted }) ≡ grant_why b
  grant_plain b = rw (length-map b.items kind.plain) refl

  room_plain : (qs : List (Outgoing A)) (o : ℕ) → has_room (map (map_outgoing kind.plain) qs) o ≡ has_room qs o
  room_plain qs o = search (arith, slice_get-map, length-map)

  turn_plain : (qs : List (Outgoing A)) (p : Input A) → turn_why (map (map_outgoing kind.plain) qs) (map_input kind.plain p) ≡ turn_why qs p
  turn_plain qs p = search (arith, length-map, map_phase, room_plain)

  wanted_plain : (settings : List Settings) (o : ℕ) (owner : Option ℕ) (t : Settings) (q : Outgoing A) (ph : Phase (List A)) → wanted_why settings o owner t (map_outgoing kind.plain q) (map_phase kind.plain ph) ≡ wanted_why settings o owner t q ph
  wanted_plain settings o owner t q ph = search (arith, length-map)

  near_node : (crossing : Crossing) (l : ℕ) (n : Node A) → near_why crossing l (map_node kind.plain n) ≡ near_why crossing l n
  near_node crossing l n = search (arith, why_plain, emit_plain, grant_plain)

  far_node : (crossing : Crossing) (l : ℕ) (n : Node A) → far_why crossing l (map_node kind.plain n) ≡ far_why crossing l n
  far_node crossing l n = search (arith, why_plain)

  input_node : (l : ℕ) (n : Node A) → node_input_why l (map_node kind.plain n) ≡ node_input_why l n
  input_node l n = search (arith, why_same, why_plain, turn_plain)

  claim_node : (i o : ℕ) (n : Node A) → node_claim_why i o (map_node kind.plain n) ≡ node_claim_why i o n
  claim_node i o n = search (arith, owner_map, why_plain, why_same, map_phase, wanted_plain)

  drain_node : (n : Node A) → node_drain_why (map_node kind.plain n) ≡ node_drain_why n
  drain_node n = search (arith, length-map)

  module _ (net : Network A) where
    at_plain : (g : Node A → Option Unready) (h : Node Token → Option Unready) → ((n : Node A) → h (map_node kind.plain n) ≡ g n) → (k : ℕ) → why_at (map (map_node kind.plain) net.nodes) k h ≡ why_at net.nodes k g
    at_plain g h same k = why_plain (map_node kind.plain) g h same net.nodes k

    acts_why_plain : (acts : Acts A) → acts_why (plain_network kind net) (plain_acts kind acts) ≡ acts_why net acts
    acts_why_plain acts = search (arith, at_plain, input_node, claim_node, drain_node, near_node, far_node)

    event_plain : (e : Event) → event_why (plain_network kind net) e ≡ event_why net e
    event_plain e = ap (λ (o : Option (Acts Token)). o >>= acts_why (plain_network kind net)) (acts_plain kind net.plan e) ∙ by_acts (event_acts net.plan e)
      where
        by_acts : (o : Option (Acts A)) → (option_map (plain_acts kind) o >>= acts_why (plain_network kind net)) ≡ (o >>= acts_why net)
        by_acts o = search (arith, acts_why_plain)

    pub network_why_plain : (e : Event) → network_why (plain_network kind net) e ≡ network_why net e
    network_why_plain e = ap (unless_refused (event_fault net.plan e)) (event_plain e)

  -- whether each of some events has a reason
  pub have_reasons_plain : (net : Network A) (es : List Event) → have_reasons (plain_network kind net) es ≡ have_reasons net es
  have_reasons_plain net es = search (arith, plain_network, network_why_plain)
