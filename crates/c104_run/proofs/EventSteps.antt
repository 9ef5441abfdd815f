-- What an event does, as the steps of nodes that are named for it: the step of its acts is that of a turn, a claim, a
-- command, a packet or a token's arrival; and, in a network of a plan whose nodes stand in their places, of a crossing.
use Rattle.{c104_event.specs.declared.events.Event.Event, c104_link.proofs.MadeSteps.{at_place_made, from_place_made}}
use Rattle.{c104_link.specs.Steps.{step_at, yield_step_at, ◌>>=◌}, c104_node.proofs.NamedWires.{nodes_credit, nodes_cross}}
use Rattle.c104_node.{proofs.WireEnds.get_set_other, specs.{Acts.{control_by, done_by, node_act, nodes_act, token_by}, Nodes.Node}}
use Rattle.c104_node.specs.Nodes.{is_switch, node_claim, node_control, node_credit_in, node_credit_out, node_drain, node_enter, node_input}
use Rattle.c104_node.specs.{Nodes.{node_leave, node_send}, PortActs.{Acts, act_limit, far_act, port_credit_in, port_credit_out, port_enter}}
use Rattle.c104_node.specs.{PortActs.port_leave, Traces.part, declared.{acts.ActOf.ActOf, crossings.Crossing.TheVariants.{Grant, Token}}}
use Rattle.{c104_node.specs.declared.node.NodeOf.NodeOf, c104_plan.specs.{Plans.{IsPlan, Plan}, Wiring.peer, declared.ports.Port.Port}}
use Rattle.c104_run.proofs.{BalanceWires.{nodes_apart, peer_back, switch_inside}, RunRecords.{in_place, is_switch_place}}
use Rattle.c104_run.specs.{Balance.AreInPlace, Ends.end_of, EventActs.{acts_step, port_place}, Network.{Network, event_fault, event_limit}}
use Rattle.{c104_run.specs.Network.{network_apply, network_step, terminal_place, told_step, with_nodes}, c104_switch.specs.Actions.Reply}
use Rattle.c104_switch.specs.{Control.switch_control, Switch.Switch, declared.actions.{ActionOf.ActionOf, ReplyOf.ReplyOf}}
use Rattle.{c104_token.specs.{Kinds.Kind, declared.packets.Packet.Packet}, std.proofs.Common.{Bool, List, None, Ok, Option, Some, ap}}
use Rattle.std.proofs.Common.{arith, false, length, nat_lt, refl, slice_get, slice_set, sym, true, ℕ, ◌-◌, ◌<◌, ◌∙◌, ◌≡◌}
use Rattle.std.proofs.lemmas.Bool.Decides.{nat_tests}

module _ {A : Type 0} (kind : Kind A) where
  -- what is left where nothing else comes of an event
  abbrev pub done_step : Network A → Option (List (Node A)) → Option (Reply × Network A)
  done_step net made = made >>= (λ nodes. Some (ReplyOf.Done, with_nodes net nodes))

  -- the same, where a token comes of it
  abbrev pub token_step : Network A → Option (A × List (Node A)) → Option (Reply × Network A)
  token_step net made = made >>= (λ r. Some (ReplyOf.Token (kind.plain r.0), with_nodes net r.1))

  -- the same, where a switch replies to a command
  abbrev pub control_step : Network A → Option (List ℕ × List (Node A)) → Option (Reply × Network A)
  control_step net made = made >>= (λ r. Some (ReplyOf.Control r.0, with_nodes net r.1))

-- whether a port is a switch's
abbrev pub is_switch_port : Port → Bool
is_switch_port (Port.Switch s l) = true
is_switch_port (Port.Terminal t) = false

-- an act at a place, as the step that its name says
module _ {A : Type 0} (nodes : List (Node A)) (k : ℕ) (act_of : Node A → Option (ReplyOf A × Node A)) where
  done_at : (f : Node A → Option (Node A)) → ((n : Node A) → slice_get nodes k ≡ Some n → act_of n ≡ done_by (f n)) → yield_step_at nodes k act_of ≡ done_by (step_at nodes k f)
  done_at f same = search arith

  -- the same, where a token or a reply to a command comes of it
  module _ {Y : Type 0} (answer : Y → ReplyOf A) where
    abbrev answered : {S : Type 0} → Option (Y × S) → Option (ReplyOf A × S)
    answered made = made >>= (λ r. Some (answer r.0, r.1))

    yield_at : (f : Node A → Option (Y × Node A)) → ((n : Node A) → slice_get nodes k ≡ Some n → act_of n ≡ answered (f n)) → yield_step_at nodes k act_of ≡ answered (yield_step_at nodes k f)
    yield_at f same = search arith

module _ {A : Type 0} (kind : Kind A) where
  -- what comes of a step, as it is told
  token_told : (net : Network A) (made : Option (A × List (Node A))) → token_step kind net made ≡ told_step kind net (token_by made)
  token_told net made = search arith

  done_told : (net : Network A) (made : Option (List (Node A))) → done_step kind net made ≡ told_step kind net (done_by {A = A} made)
  done_told net made = search arith

  control_told : (net : Network A) (made : Option (List ℕ × List (Node A))) → control_step kind net made ≡ told_step kind net (control_by {A = A} made)
  control_told net made = search arith

  module _ (net : Network A) (k number : ℕ) (a : ActOf A) where
    done_alone : (f : Node A → Option (Node A)) → ((n : Node A) → node_act kind number a n ≡ done_by (f n)) → done_step kind net (step_at net.nodes k f) ≡ told_step kind net (nodes_act kind net.nodes k number a)
    done_alone f same = done_told net (step_at net.nodes k f) ∙ ap (told_step kind net) (sym (done_at net.nodes k (node_act kind number a) f (λ n at. same n)))

    token_alone : (f : Node A → Option (A × Node A)) → ((n : Node A) → node_act kind number a n ≡ token_by (f n)) → token_step kind net (yield_step_at net.nodes k f) ≡ told_step kind net (nodes_act kind net.nodes k number a)
    token_alone f same = token_told net (yield_step_at net.nodes k f) ∙ ap (told_step kind net) (sym (yield_at net.nodes k (node_act kind number a) ReplyOf.Token f (λ n at. same n)))

    control_alone : (f : Node A → Option (List ℕ × Node A)) → ((n : Node A) → node_act kind number a n ≡ control_by (f n)) → control_step kind net (yield_step_at net.nodes k f) ≡ told_step kind net (nodes_act kind net.nodes k number a)
    control_alone f same = control_told net (yield_step_at net.nodes k f) ∙ ap (told_step kind net) (sym (yield_at net.nodes k (node_act kind number a) ReplyOf.Control f (λ n at. same n)))

  input_act : (l word number : ℕ) (n : Node A) → node_act kind number (ActOf.Step (ActionOf.Input l word)) n ≡ done_by (node_input kind l word n)
  input_act l word number n = search arith

  claim_act : (i o number : ℕ) (n : Node A) → node_act kind number (ActOf.Step (ActionOf.Claim i o)) n ≡ done_by (node_claim i o n)
  claim_act i o number n = search arith

  control_act : (bytes : List ℕ) (number : ℕ) (n : Node A) → node_act kind number (ActOf.Step (ActionOf.Control bytes)) n ≡ control_by (node_control bytes n)
  control_act bytes number n = search arith

  -- the acts at a port, of a node of its kind
  module _ (plan : Plan) where
    leave_is : (p : Port) (n : Node A) → is_switch n ≡ is_switch_port p → node_act kind 0 (port_leave p) n ≡ token_by (node_leave (end_of plan p).link n)
    leave_is p n fits = search arith

    enter_is : (p : Port) (x : A) (n : Node A) → is_switch n ≡ is_switch_port p → node_act kind 0 (port_enter x p) n ≡ done_by (node_enter x (end_of plan p).link n)
    enter_is p x n fits = search arith

    credit_out_is : (p : Port) (n : Node A) → is_switch n ≡ is_switch_port p → node_act kind 0 (port_credit_out p) n ≡ done_by (node_credit_out (end_of plan p).link n)
    credit_out_is p n fits = search arith

    credit_in_is : (p : Port) (n : Node A) → is_switch n ≡ is_switch_port p → node_act kind 0 (port_credit_in p) n ≡ done_by (node_credit_in (end_of plan p).link n)
    credit_in_is p n fits = search arith

  module _ (plan : Plan) (is_plan : IsPlan plan) (nodes : List (Node A)) (placed : AreInPlace plan nodes) where
    -- the node at a wired port is of the port's kind
    pub fits_there : (p q : Port) (n : Node A) → peer plan p ≡ Some q → slice_get nodes (port_place plan p) ≡ Some n → is_switch n ≡ is_switch_port p
    fits_there p q n wired at = sym (ap (part false is_switch) at) ∙ in_place plan nodes placed (port_place plan p) ∙ by_port p q wired
      where
        by_port : (p q : Port) → peer plan p ≡ Some q → is_switch_place plan (port_place plan p) ≡ is_switch_port p
        by_port (Port.Switch s l) q wired = let inside : s < length plan.switches = (switch_inside plan is_plan s l q wired).0 in grind (arith, nat_tests)
        by_port (Port.Terminal t) q wired = grind (arith, nat_tests)

    -- what the act at the far end leaves is answered as at the near one
    abbrev answer_as : ReplyOf A → ReplyOf A × List (Node A) → Option (ReplyOf A × List (Node A))
    answer_as r s = Some (r, s.1)

    abbrev after_near : Port → Port → ReplyOf A × List (Node A) → Option (ReplyOf A × List (Node A))
    after_near p q r = nodes_act kind r.1 (port_place plan q) 0 (far_act q r.0) >>= answer_as r.0

    abbrev with_token : A → List (Node A) → Option (A × List (Node A))
    with_token x ns = Some (x, ns)

    module _ (p q : Port) (wired : peer plan p ≡ Some q) where
      -- the node at the far end is as it was, and of its port's kind
      far_fits : (m n : Node A) → slice_get (slice_set nodes (port_place plan p) m) (port_place plan q) ≡ Some n → is_switch n ≡ is_switch_port q
      far_fits m n at = fits_there q p n (peer_back plan is_plan p q wired) (sym (get_set_other nodes (port_place plan p) (port_place plan q) m (nodes_apart plan is_plan p q wired)) ∙ at)

      -- a crossing, as the steps at both ends
      cross_is : acts_step kind plan nodes (Acts.Joint p q Token) ≡ token_by (nodes_cross nodes (end_of plan p) (end_of plan q))
      cross_is =
          ap (λ (made : Option (ReplyOf A × List (Node A))). made >>= after_near p q) (yield_at nodes (port_place plan p) (node_act kind 0 (port_leave p)) ReplyOf.Token (node_leave (end_of plan p).link) (λ n at. leave_is plan p n (fits_there p q n wired at)))
          ∙ by_left (yield_step_at nodes (port_place plan p) (node_leave (end_of plan p).link)) refl
        where
          by_made : (x : A) (made : Option (List (Node A))) → (done_by {A = A} made >>= answer_as (ReplyOf.Token x)) ≡ token_by (made >>= with_token x)
          by_made x None = refl
          by_made x (Some ns) = refl

          by_left : (o : Option (A × List (Node A))) → yield_step_at nodes (port_place plan p) (node_leave (end_of plan p).link) ≡ o → (token_by o >>= after_near p q) ≡ token_by (o >>= (λ (r : A × List (Node A)). step_at r.1 (port_place plan q) (node_enter r.0 (end_of plan q).link) >>= with_token r.0))
          by_left None left = refl
          by_left (Some r) left = from_place_made nodes (port_place plan p) (node_leave (end_of plan p).link) r left (λ n y here made set.
              (let after : slice_set nodes (port_place plan p) y.1 ≡ r.1 = ap (λ (z : A × List (Node A)). z.1) set in
              ap (λ (made : Option (ReplyOf A × List (Node A))). made >>= answer_as (ReplyOf.Token r.0)) (done_at r.1 (port_place plan q) (node_act kind 0 (port_enter r.0 q)) (node_enter r.0 (end_of plan q).link)
              (λ m at. enter_is plan q r.0 m (far_fits y.1 m (ap (λ ns. slice_get ns (port_place plan q)) after ∙ at))))
              ∙ by_made r.0 (step_at r.1 (port_place plan q) (node_enter r.0 (end_of plan q).link))))

      -- and so a grant
      credit_is : acts_step kind plan nodes (Acts.Joint p q Grant) ≡ done_by {A = A} (nodes_credit nodes (end_of plan p) (end_of plan q))
      credit_is =
          ap (λ (made : Option (ReplyOf A × List (Node A))). made >>= after_near p q) (done_at nodes (port_place plan p) (node_act kind 0 (port_credit_out p)) (node_credit_out (end_of plan p).link) (λ n at. credit_out_is plan p n (fits_there p q n wired at)))
          ∙ by_out (step_at nodes (port_place plan p) (node_credit_out (end_of plan p).link)) refl
        where
          by_made : (made : Option (List (Node A))) → (done_by {A = A} made >>= answer_as ReplyOf.Done) ≡ done_by {A = A} made
          by_made None = refl
          by_made (Some ns) = refl

          by_out : (o : Option (List (Node A))) → step_at nodes (port_place plan p) (node_credit_out (end_of plan p).link) ≡ o → (done_by {A = A} o >>= after_near p q) ≡ done_by {A = A} (o >>= (λ granted. step_at granted (port_place plan q) (node_credit_in (end_of plan q).link)))
          by_out None out = refl
          by_out (Some granted) out = at_place_made nodes (port_place plan p) (node_credit_out (end_of plan p).link) granted out (λ n y here made set.
              ap (λ (made : Option (ReplyOf A × List (Node A))). made >>= answer_as ReplyOf.Done) (done_at granted (port_place plan q) (node_act kind 0 (port_credit_in q)) (node_credit_in (end_of plan q).link)
              (λ m at. credit_in_is plan q m (far_fits y m (ap (λ ns. slice_get ns (port_place plan q)) set ∙ at))))
              ∙ by_made (step_at granted (port_place plan q) (node_credit_in (end_of plan q).link)))

  -- what an event of one node answers and leaves
  pub input_named : (net : Network A) (s l word : ℕ) → done_step kind net (step_at net.nodes s (node_input kind l word)) ≡ network_step kind net (Event.Input s l word)
  input_named net s l word = done_alone net s (s - length net.plan.switches) (ActOf.Step (ActionOf.Input l word)) (node_input kind l word) (input_act l word (s - length net.plan.switches))

  pub claim_named : (net : Network A) (s i o : ℕ) → done_step kind net (step_at net.nodes s (node_claim i o)) ≡ network_step kind net (Event.Claim s i o)
  claim_named net s i o = done_alone net s (s - length net.plan.switches) (ActOf.Step (ActionOf.Claim i o)) (node_claim i o) (claim_act i o (s - length net.plan.switches))

  pub control_named : (net : Network A) (s : ℕ) (bytes : List ℕ) → control_step kind net (yield_step_at net.nodes s (node_control bytes)) ≡ network_step kind net (Event.Control s bytes)
  control_named net s bytes = control_alone net s (s - length net.plan.switches) (ActOf.Step (ActionOf.Control bytes)) (node_control bytes) (control_act bytes (s - length net.plan.switches))

  pub send_named : (net : Network A) (t : ℕ) (packet : Packet) → done_step kind net (step_at net.nodes (terminal_place net.plan t) (node_send kind t packet)) ≡ network_step kind net (Event.Send t packet)
  send_named net t packet = search (arith, done_alone)

  pub drain_named : (net : Network A) (t : ℕ) → token_step kind net (yield_step_at net.nodes (terminal_place net.plan t) node_drain) ≡ network_step kind net (Event.Drain t)
  drain_named net t = token_alone net (terminal_place net.plan t) (terminal_place net.plan t - length net.plan.switches) ActOf.Drain node_drain (λ n. refl)

  -- what crosses a wire, in a network of a plan whose nodes stand in their places
  module _ (net : Network A) (is_plan : IsPlan net.plan) (placed : AreInPlace net.plan net.nodes) (p : Port) where
    pub cross_named : (peer net.plan p >>= (λ q. token_step kind net (nodes_cross net.nodes (end_of net.plan p) (end_of net.plan q)))) ≡ network_step kind net (Event.Cross p)
    cross_named = search (arith, nodes_cross, token_told, cross_is)

    pub credit_named : (peer net.plan p >>= (λ q. done_step kind net (nodes_credit net.nodes (end_of net.plan p) (end_of net.plan q)))) ≡ network_step kind net (Event.Credit p)
    credit_named = search (arith, nodes_credit, done_told, credit_is)

  -- a command of a switch that stands there is replied to
  module _ (net : Network A) (k : ℕ) (bytes : List ℕ) (s : Switch A) (here : nat_lt k (length net.plan.switches) ≡ true) (there : slice_get net.nodes k ≡ Some (NodeOf.Switch s)) where
    abbrev after : Network A
    after = with_nodes net (slice_set net.nodes k (NodeOf.Switch (switch_control s bytes).1))

    abbrev put : ReplyOf A × Node A → Option (ReplyOf A × List (Node A))
    put y = Some (y.0, slice_set net.nodes k y.1)

    made : network_step kind net (Event.Control k bytes) ≡ Some (ReplyOf.Control (switch_control s bytes).0, after)
    made = ap (λ (o : Option (Node A)). told_step kind net (o >>= (λ n. node_act kind (k - length net.plan.switches) (ActOf.Step (ActionOf.Control bytes)) n >>= put))) there

    possible : event_fault net.plan (Event.Control k bytes) ≡ None
    possible = rw here refl

    unlimited : event_limit net (Event.Control k bytes) ≡ None
    unlimited = ap (λ (o : Option (Node A)). act_limit o (ActOf.Step (ActionOf.Control bytes))) there

    pub control_applied : network_apply kind net (Event.Control k bytes) ≡ (Ok (ReplyOf.Control (switch_control s bytes).0), after)
    control_applied = search (arith, possible, made, unlimited)
