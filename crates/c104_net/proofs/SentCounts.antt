-- How many packets each node has sent: a Send that is done adds one at its terminal, and nothing else changes it. So the
-- number of a packet is lower than the most entries of a trace.
use Rattle.{c104_event.specs.declared.events.Event.Event, c104_link.proofs.MadeSteps.{All-place, at_place_made, from_place_made, given}}
use Rattle.{c104_link.specs.Steps.{step_at, yield_step_at, ◌>>=◌}, c104_net.proofs.{EventEntries.lone_first, JointKeeps.IsOfRound}}
use Rattle.{c104_net.proofs.JointKeeps.round_keeps, c104_node.{proofs.WireEnds.{get_set_other, get_set_same}, specs.Nodes.Node}}
use Rattle.c104_node.specs.Nodes.{as_terminal, node_claim, node_control, node_credit_in, node_credit_out, node_drain, node_enter}
use Rattle.c104_node.specs.{Nodes.{node_input, node_leave, node_send}, Starts.start_node, Traces.{Deed, trace_limit}}
use Rattle.c104_node.specs.declared.{acts.{ActOf.ActOf, Entry.Entry}, node.NodeOf.TheVariants.{Switch, Terminal}, stamps.Stamp.Stamp}
use Rattle.{c104_node.specs.declared.starts.NodeStart.NodeStart, c104_plan.specs.Plans.Plan, c104_run.proofs.EventSteps.control_named}
use Rattle.c104_run.{proofs.EventSteps.send_named, specs.{EventDeeds.event_deeds, NetRecords.IsWithinLimit, Network.{Network, network_of}}}
use Rattle.{c104_run.specs.{Network.{network_step, terminal_place}, Runs.at_node}, c104_switch.specs.Actions.{Reply, is_ready}}
use Rattle.{c104_switch.specs.declared.actions.ReplyOf.ReplyOf, c104_token.specs.{Kinds.Kind, declared.packets.Packet.Packet}}
use Rattle.std.proofs.Common.{All, List, None, Option, Some, [], ap, arith, length, length-append, map, nat_eq, option_map, refl, slice_get}
use Rattle.std.proofs.{Common.{slice_set, subst, suc, sym, true, zero, ℕ, ◌++◌, ◌+◌, ◌∙◌, ◌∷◌, ◌≡◌, ◌≤◌}, lemmas.Bool.cases_eq}
use Rattle.std.proofs.lemmas.{List.map-set, Option.slice_get-map}
use Rattle.c104_node.specs.Terminals as terminal

module _ {A : Type 0} where
  abbrev pub sent_count : Node A → ℕ
  sent_count (Switch s) = 0
  sent_count (Terminal t) = length t.sent

  abbrev pub counts : List (Node A) → List ℕ
  counts nodes = map sent_count nodes

  -- a terminal that has sent as much, and one of which a token comes
  module _ {X : Type 0} (t : terminal.Terminal A) (f : X → terminal.Terminal A) (same : (x : X) → length (f x).sent ≡ length t.sent) where
    made_same : (made : Option X) (m : Node A) → ((made >>= (λ x. Some (f x))) >>= as_terminal) ≡ Some m → sent_count m ≡ length t.sent
    made_same made m is = search arith

    abbrev taken : (X → A) → X → Option (A × terminal.Terminal A)
    taken g x = Some (g x, f x)

    abbrev with_terminal : A × terminal.Terminal A → Option (A × Node A)
    with_terminal v = Some (v.0, Terminal v.1)

    yield_same : (g : X → A) (made : Option X) (r : A × Node A) → ((made >>= taken g) >>= with_terminal) ≡ Some r → sent_count r.1 ≡ length t.sent
    yield_same g made r is = search arith

  -- each step of one node but Send keeps the number
  leave_keeps : (l : ℕ) (n : Node A) (r : A × Node A) → node_leave l n ≡ Some r → sent_count r.1 ≡ sent_count n
  leave_keeps l n r is = search (arith, given, yield_same)

  enter_keeps : (x : A) (l : ℕ) (n m : Node A) → node_enter x l n ≡ Some m → sent_count m ≡ sent_count n
  enter_keeps x l n m is = search (arith, given, made_same)

  credit_out_keeps : (l : ℕ) (n m : Node A) → node_credit_out l n ≡ Some m → sent_count m ≡ sent_count n
  credit_out_keeps l n m is = search (arith, given, made_same)

  credit_in_keeps : (l : ℕ) (n m : Node A) → node_credit_in l n ≡ Some m → sent_count m ≡ sent_count n
  credit_in_keeps l n m is = search (arith, given, made_same)

  input_keeps : (kind : Kind A) (i word : ℕ) (n m : Node A) → node_input kind i word n ≡ Some m → sent_count m ≡ sent_count n
  input_keeps kind i word n m is = search (arith, given)

  claim_keeps : (i o : ℕ) (n m : Node A) → node_claim i o n ≡ Some m → sent_count m ≡ sent_count n
  claim_keeps i o n m is = search (arith, given)

  control_keeps : (bytes : List ℕ) (n : Node A) (r : List ℕ × Node A) → node_control bytes n ≡ Some r → sent_count r.1 ≡ sent_count n
  control_keeps bytes n r is = search arith

  drain_keeps : (n : Node A) (r : A × Node A) → node_drain n ≡ Some r → sent_count r.1 ≡ sent_count n
  drain_keeps n r is = search (arith, yield_same)

  send_adds : (kind : Kind A) (number : ℕ) (packet : Packet) (n m : Node A) → node_send kind number packet n ≡ Some m → sent_count m ≡ suc (sent_count n)
  send_adds kind number packet n m is = search (arith, length-append)

  -- so of the nodes
  set_counts : (nodes : List (Node A)) (i : ℕ) (n m : Node A) → slice_get nodes i ≡ Some n → sent_count m ≡ sent_count n → counts (slice_set nodes i m) ≡ counts nodes
  set_counts [] i n m is keeps = refl
  set_counts (o ∷ nodes) zero n m is keeps = search arith
  set_counts (o ∷ nodes) (suc i) n m is keeps = ap (λ cs. sent_count o ∷ cs) (set_counts nodes i n m is keeps)

  yield_kept : {Y : Type 0} (nodes : List (Node A)) (i : ℕ) (f : Node A → Option (Y × Node A)) (r : Y × List (Node A)) → yield_step_at nodes i f ≡ Some r → ((n : Node A) (y : Y × Node A) → f n ≡ Some y → sent_count y.1 ≡ sent_count n) → counts r.1 ≡ counts nodes
  yield_kept {Y} nodes i f r is keeps = from_place_made nodes i f r is (λ n y here made set. ap (λ (z : Y × List (Node A)). counts z.1) (sym set) ∙ set_counts nodes i n y.1 here (keeps n y made))

-- what an event does to the numbers
abbrev pub AddsSent : Plan → Event → List ℕ → List ℕ → Type 0
AddsSent plan (Event.Send t packet) before after = (c : ℕ) × (slice_get before (terminal_place plan t) ≡ Some c) × (after ≡ slice_set before (terminal_place plan t) (suc c))
AddsSent plan e before after = after ≡ before

module _ {A : Type 0} (kind : Kind A) (plan : Plan) (nodes : List (Node A)) where
  by_last : (told : Reply) (after : List (Node A)) (r : Reply × Network A) (P : List ℕ → Type 0) → ◌≡◌ {A = Option (Reply × Network A)} (Some (told, network_of plan after)) (Some r) → P (counts after) → P (counts r.1.nodes)
  by_last told after r P is holds = search arith

  round_counts : (e : Event) → IsOfRound e → (r : Reply × Network A) → network_step kind (network_of plan nodes) e ≡ Some r → counts r.1.nodes ≡ counts nodes
  round_counts e of r is =
      round_keeps kind (λ n m. sent_count m ≡ sent_count n) leave_keeps enter_keeps credit_out_keeps credit_in_keeps (input_keeps kind) claim_keeps drain_keeps
      (λ ns. counts ns ≡ counts nodes) (λ ns k n m here keeps same. set_counts ns k n m here keeps ∙ same) plan nodes e of r is refl

  pub step_counts : (e : Event) (r : Reply × Network A) → network_step kind (network_of plan nodes) e ≡ Some r → AddsSent plan e (counts nodes) (counts r.1.nodes)
  step_counts (Event.Control s bytes) r is = search (arith, given, control_named, by_last, yield_kept, control_keeps)
  step_counts (Event.Send t packet) r is = given (step_at nodes (terminal_place plan t) (node_send kind t packet)) _ r (send_named kind (network_of plan nodes) t packet ∙ is) (λ v made last.
      by_last ReplyOf.Done v r (λ cs. AddsSent plan (Event.Send t packet) (counts nodes) cs) last (at_place_made nodes (terminal_place plan t) (node_send kind t packet) v made (λ n m here step set. (
        sent_count n,
        slice_get-map sent_count nodes (terminal_place plan t) ∙ ap (option_map sent_count) here,
        ap counts (sym set) ∙ set_there (terminal_place plan t) m ∙ ap (slice_set (counts nodes) (terminal_place plan t)) (send_adds kind t packet n m step),
      ))))
    where
      set_there : (k : ℕ) (m : Node A) → counts (slice_set nodes k m) ≡ slice_set (counts nodes) k (sent_count m)
      set_there k m = rw (map-set sent_count nodes k m) refl
  step_counts e r is = round_counts e tt r is

-- as many packets as were sent, and as many entries as are to come, are within the limit of a trace
abbrev pub IsBounded : List ℕ → List Deed → Type 0
IsBounded cs ds = (k c : ℕ) → slice_get cs k ≡ Some c → c + length (at_node k ds) ≤ trace_limit

at_more : (k : ℕ) (ds rest : List Deed) → length (at_node k rest) ≤ length (at_node k (ds ++ rest))
at_more k [] rest = omega arith
at_more k (d ∷ ds) rest = search (arith, nat_eq, at_more k ds rest)

later : (cs after : List ℕ) (ds rest : List Deed) → after ≡ cs → IsBounded cs (ds ++ rest) → IsBounded after rest
later cs after ds rest same bound = λ k c at. (let one = bound k c (ap (λ xs. slice_get xs k) (sym same) ∙ at) in let more = at_more k ds rest in omega (arith, one, more))

-- a packet that is sent has a number below the limit
pub low_number : (plan : Plan) (t : ℕ) (packet : Packet) (stamp : Stamp) (r : Reply) (cs : List ℕ) (rest : List Deed) (c : ℕ) → is_ready r ≡ true → IsBounded cs (event_deeds plan stamp (Event.Send t packet) r ++ rest) → slice_get cs (terminal_place plan t) ≡ Some c → c + suc (length (at_node (terminal_place plan t) rest)) ≤ trace_limit
low_number plan t packet stamp r cs rest c ready bound at =
    let one = bound (terminal_place plan t) c at in
    subst (λ (es : List Entry). c + length es ≤ trace_limit) (lone_first stamp (terminal_place plan t) (ActOf.Send packet) r rest ready) one

-- an event that was done keeps them within the limit
pub bounded_on : (plan : Plan) (e : Event) (stamp : Stamp) (r : Reply) (cs after : List ℕ) (rest : List Deed) → is_ready r ≡ true → AddsSent plan e cs after → IsBounded cs (event_deeds plan stamp e r ++ rest) → IsBounded after rest
bounded_on plan e stamp r cs after rest ready adds bound = search (arith, cases_eq, get_set_same, low_number, get_set_other, at_more, later)

-- at a start nothing was sent
none_sent : (A : Type 0) (starts : List NodeStart) (k c : ℕ) → slice_get (counts (map (start_node {A = A}) starts)) k ≡ Some c → c ≡ 0
none_sent A (NodeStart.Switch s ∷ starts) zero c is = cc
none_sent A (s ∷ starts) (suc k) c is = none_sent A starts k c is
none_sent A starts k c is = cc

pub bounded_first : (A : Type 0) (starts : List NodeStart) (traces : List (List Entry)) (deeds : List Deed) → ((k : ℕ) → slice_get traces k ≡ option_map (λ (n : Node A). at_node k deeds) (slice_get (map start_node starts) k)) → All IsWithinLimit traces → IsBounded (counts (map (start_node {A = A}) starts)) deeds
bounded_first A starts traces deeds told within = λ k c at. by_start k c (slice_get (map (start_node {A = A}) starts) k) refl (sym (slice_get-map sent_count (map (start_node {A = A}) starts) k) ∙ at) (none_sent A starts k c at)
  where
    by_start : (k c : ℕ) (o : Option (Node A)) → slice_get (map (start_node {A = A}) starts) k ≡ o → option_map sent_count (slice_get (map (start_node {A = A}) starts) k) ≡ Some c → c ≡ 0 → c + length (at_node k deeds) ≤ trace_limit
    by_start k c None here at none = let no : None ≡ Some c = sym (ap (option_map sent_count) here) ∙ at in cc
    by_start k c (Some n) here at none =
        let there : slice_get traces k ≡ Some (at_node k deeds) = told k ∙ ap (option_map (λ (n : Node A). at_node k deeds)) here in
        let one : length (at_node k deeds) ≤ trace_limit = All-place IsWithinLimit traces k (at_node k deeds) there within in
        omega (arith, one, none)
