-- What each terminal has sent: a Send that is done adds its packet there, and nothing else changes it.
use Rattle.{c104_event.specs.declared.events.Event.Event, c104_link.proofs.MadeSteps.{at_place_made, from_place_made, given}}
use Rattle.{c104_link.specs.Steps.{yield_step_at, ◌>>=◌}, c104_net.{proofs.JointKeeps.{IsOfRound, round_keeps}, specs.Deliveries.sent_at}}
use Rattle.{c104_net.specs.Deliveries.sent_packets, c104_node.{proofs.WireEnds.{get_set_other, get_set_same}, specs.Nodes.Node}}
use Rattle.c104_node.specs.Nodes.{as_terminal, node_claim, node_control, node_credit_in, node_credit_out, node_drain, node_enter}
use Rattle.c104_node.specs.{Nodes.{node_input, node_leave, node_send}, Traces.part, declared.node.NodeOf.TheVariants.Terminal}
use Rattle.{c104_plan.specs.Plans.Plan, c104_run.{proofs.EventSteps.{control_named, send_named}, specs.Network.{Network, network_of}}}
use Rattle.{c104_run.specs.Network.{network_step, terminal_place}, c104_session.specs.PrintedPackets.{event_sends, packets_of}}
use Rattle.{c104_switch.specs.Actions.Reply, c104_token.specs.{Kinds.Kind, declared.packets.Packet.Packet}, std.proofs.Common.{Bool, List}}
use Rattle.std.proofs.Common.{Option, Some, [], ap, append-nil, arith, if◌then◌else◌, map, nat_eq, option_map, refl, slice_get, slice_set}
use Rattle.std.proofs.{Common.{suc, sym, zero, ℕ, ◌++◌, ◌∙◌, ◌∷◌, ◌≡◌}, lemmas.{Bool.Decides.nat_tests, List.map-set, Option.slice_get-map}}
use Rattle.c104_node.specs.Terminals as terminal

-- a list of a list of lists, or none
abbrev list_at : List (List Packet) → ℕ → List Packet
list_at lists k = part [] (λ (l : List Packet). l) (slice_get lists k)

module _ {A : Type 0} where
  abbrev sents : List (Node A) → List (List Packet)
  sents nodes = map sent_packets nodes

  -- a terminal that has sent the same, and one of which a token comes
  module _ {X : Type 0} (t : terminal.Terminal A) (f : X → terminal.Terminal A) (same : (x : X) → (f x).sent ≡ t.sent) where
    made_same : (made : Option X) (m : Node A) → ((made >>= (λ x. Some (f x))) >>= as_terminal) ≡ Some m → sent_packets m ≡ t.sent
    made_same made m is = search arith

    abbrev taken : (X → A) → X → Option (A × terminal.Terminal A)
    taken g x = Some (g x, f x)

    abbrev with_terminal : A × terminal.Terminal A → Option (A × Node A)
    with_terminal v = Some (v.0, Terminal v.1)

    yield_same : (g : X → A) (made : Option X) (r : A × Node A) → ((made >>= taken g) >>= with_terminal) ≡ Some r → sent_packets r.1 ≡ t.sent
    yield_same g made r is = search arith

  -- each step of one node but Send keeps what it sent
  leave_keeps : (l : ℕ) (n : Node A) (r : A × Node A) → node_leave l n ≡ Some r → sent_packets r.1 ≡ sent_packets n
  leave_keeps l n r is = search (arith, given, yield_same)

  enter_keeps : (x : A) (l : ℕ) (n m : Node A) → node_enter x l n ≡ Some m → sent_packets m ≡ sent_packets n
  enter_keeps x l n m is = search (arith, given, made_same)

  credit_out_keeps : (l : ℕ) (n m : Node A) → node_credit_out l n ≡ Some m → sent_packets m ≡ sent_packets n
  credit_out_keeps l n m is = search (arith, given, made_same)

  credit_in_keeps : (l : ℕ) (n m : Node A) → node_credit_in l n ≡ Some m → sent_packets m ≡ sent_packets n
  credit_in_keeps l n m is = search (arith, given, made_same)

  input_keeps : (kind : Kind A) (i word : ℕ) (n m : Node A) → node_input kind i word n ≡ Some m → sent_packets m ≡ sent_packets n
  input_keeps kind i word n m is = search (arith, given)

  claim_keeps : (i o : ℕ) (n m : Node A) → node_claim i o n ≡ Some m → sent_packets m ≡ sent_packets n
  claim_keeps i o n m is = search (arith, given)

  control_keeps : (bytes : List ℕ) (n : Node A) (r : List ℕ × Node A) → node_control bytes n ≡ Some r → sent_packets r.1 ≡ sent_packets n
  control_keeps bytes n r is = search arith

  drain_keeps : (n : Node A) (r : A × Node A) → node_drain n ≡ Some r → sent_packets r.1 ≡ sent_packets n
  drain_keeps n r is = search (arith, yield_same)

  send_adds : (kind : Kind A) (number : ℕ) (packet : Packet) (n m : Node A) → node_send kind number packet n ≡ Some m → sent_packets m ≡ sent_packets n ++ packet ∷ []
  send_adds kind number packet n m is = search arith

  -- so of the nodes
  set_sents : (nodes : List (Node A)) (i : ℕ) (n m : Node A) → slice_get nodes i ≡ Some n → sent_packets m ≡ sent_packets n → sents (slice_set nodes i m) ≡ sents nodes
  set_sents [] i n m is keeps = refl
  set_sents (o ∷ nodes) zero n m is keeps = search arith
  set_sents (o ∷ nodes) (suc i) n m is keeps = ap (λ cs. sent_packets o ∷ cs) (set_sents nodes i n m is keeps)

  yield_kept : {Y : Type 0} (nodes : List (Node A)) (i : ℕ) (f : Node A → Option (Y × Node A)) (r : Y × List (Node A)) → yield_step_at nodes i f ≡ Some r → ((n : Node A) (y : Y × Node A) → f n ≡ Some y → sent_packets y.1 ≡ sent_packets n) → sents r.1 ≡ sents nodes
  yield_kept {Y} nodes i f r is keeps = from_place_made nodes i f r is (λ n y here made set. ap (λ (z : Y × List (Node A)). sents z.1) (sym set) ∙ set_sents nodes i n y.1 here (keeps n y made))

-- what an event does to the lists
abbrev AddsSent : Plan → Event → List (List Packet) → List (List Packet) → Type 0
AddsSent plan (Event.Send t packet) before after = (sent : List Packet) × (slice_get before (terminal_place plan t) ≡ Some sent) × (after ≡ slice_set before (terminal_place plan t) (sent ++ packet ∷ []))
AddsSent plan e before after = after ≡ before

module _ {A : Type 0} (kind : Kind A) (plan : Plan) (nodes : List (Node A)) where
  by_last : (told : Reply) (after : List (Node A)) (r : Reply × Network A) (P : List (List Packet) → Type 0) → ◌≡◌ {A = Option (Reply × Network A)} (Some (told, network_of plan after)) (Some r) → P (sents after) → P (sents r.1.nodes)
  by_last told after r P is holds = search arith

  round_sents : (e : Event) → IsOfRound e → (r : Reply × Network A) → network_step kind (network_of plan nodes) e ≡ Some r → sents r.1.nodes ≡ sents nodes
  round_sents e of r is =
      round_keeps kind (λ n m. sent_packets m ≡ sent_packets n) leave_keeps enter_keeps credit_out_keeps credit_in_keeps (input_keeps kind) claim_keeps drain_keeps
      (λ ns. sents ns ≡ sents nodes) (λ ns k n m here keeps same. set_sents ns k n m here keeps ∙ same) plan nodes e of r is refl

  step_sents : (e : Event) (r : Reply × Network A) → network_step kind (network_of plan nodes) e ≡ Some r → AddsSent plan e (sents nodes) (sents r.1.nodes)
  step_sents (Event.Control s bytes) r is = search (arith, given, control_named, by_last, yield_kept, control_keeps)
  step_sents (Event.Send t packet) r is = search (arith, given, send_named, by_last, at_place_made, slice_get-map, set_there, send_adds)
    where
      set_there : (k : ℕ) (m : Node A) → sents (slice_set nodes k m) ≡ slice_set (sents nodes) k (sent_packets m)
      set_there k m = rw (map-set sent_packets nodes k m) refl
  step_sents e r is = round_sents e tt r is

-- the list of each terminal after an event
adds_at : (plan : Plan) (e : Event) (before after : List (List Packet)) (t : ℕ) → AddsSent plan e before after → list_at after (terminal_place plan t) ≡ list_at before (terminal_place plan t) ++ packets_of t (event_sends e)
adds_at plan e before after t adds = search (arith, nat_tests, get_set_same, get_set_other, append-nil)

part_of : {A : Type 0} (o : Option (Node A)) → part [] sent_packets o ≡ part [] (λ (l : List Packet). l) (option_map sent_packets o)
part_of o = search arith

sent_list : {A : Type 0} (plan : Plan) (nodes : List (Node A)) (t : ℕ) → sent_at (network_of plan nodes) t ≡ list_at (sents nodes) (terminal_place plan t)
sent_list plan nodes t = part_of (slice_get nodes (terminal_place plan t)) ∙ ap (part [] (λ (l : List Packet). l)) (sym (slice_get-map sent_packets nodes (terminal_place plan t)))

-- what each terminal has sent after an event that was done
pub sent_after : {A : Type 0} (kind : Kind A) (plan : Plan) (nodes after : List (Node A)) (e : Event) (r : Reply) → network_step kind (network_of plan nodes) e ≡ Some (r, network_of plan after) → (t : ℕ) → sent_at (network_of plan after) t ≡ sent_at (network_of plan nodes) t ++ packets_of t (event_sends e)
sent_after kind plan nodes after e r is t = search (arith, sent_list, adds_at, step_sents)

pub packets_append : (t : ℕ) (xs ys : List (ℕ × Packet)) → packets_of t (xs ++ ys) ≡ packets_of t xs ++ packets_of t ys
packets_append t [] ys = refl
packets_append t (x ∷ xs) ys = by_test (nat_eq x.0 t) (packets_append t xs ys)
  where
    by_test : (b : Bool) → packets_of t (xs ++ ys) ≡ packets_of t xs ++ packets_of t ys → (if b then x.1 ∷ packets_of t (xs ++ ys) else packets_of t (xs ++ ys)) ≡ (if b then x.1 ∷ packets_of t xs else packets_of t xs) ++ packets_of t ys
    by_test b rest = search arith
