-- Events over one kind of token and over another: what is told of tokens beside themselves can be taken away.
use Rattle.{c104_event.specs.declared.{events.Event.Event, faults.EventFault.EventFault}, c104_link.specs.Steps.◌>>=◌}
use Rattle.c104_node.specs.{Acts.{control_by, done_by, node_act, nodes_act, plain_reply, token_by}, MappedNodes.map_node, Nodes.Node}
use Rattle.c104_node.specs.{Nodes.{arrived_tokens, node_control, node_send, waiting_tokens}, PortActs.{Acts, act_limit, far_act, near_act}}
use Rattle.c104_node.specs.{Terminals.{Terminal, sent_from}, declared.{acts.ActOf.ActOf, crossings.Crossing.Crossing, node.NodeOf.NodeOf}}
use Rattle.{c104_plan.specs.{Plans.Plan, declared.ports.Port.Port}, c104_run.proofs.{SwitchMaps.control_node_map, TokenMaps.bind_both}}
use Rattle.c104_run.proofs.TokenMaps.{credit_in_node_map, credit_out_node_map, drain_node_map, enter_node_map, leave_node_map}
use Rattle.c104_run.{proofs.TurnMaps.{claim_node_map, input_node_map}, specs.EventActs.{acts_step, crossing_acts, event_acts, port_place}}
use Rattle.c104_run.specs.Network.{Network, event_fault, event_limit, network_apply, network_step, outcome_if_possible, outcome_if_ready}
use Rattle.c104_run.specs.{Network.{outcome_within_limit, terminal_place, told_step}, Runs.IsDoneRun, TracedRuns.map_network}
use Rattle.{c104_switch.specs.{Actions.Reply, declared.actions.{ActionOf.ActionOf, ReplyOf.ReplyOf}}, c104_token.specs.Kinds.Kind}
use Rattle.c104_token.specs.declared.{packets.Packet.Packet, tokens.Token.{TheVariants.Byte, Token as PlainToken}}
use Rattle.std.proofs.Common.{IfSome, List, None, Ok, Option, Result, Some, [], ap, arith, length, map, option_map, refl, slice_get, subst}
use Rattle.std.proofs.{Common.{suc, sym, ℕ, ◌-◌, ◌∙◌, ◌∷◌, ◌≡◌}, lemmas.{List.{length-map, map-append, map-set}, Option.slice_get-map}}
use Rattle.c104_event.specs.declared.events.Event.TheVariants as event

module _ {A B : Type 0} (f : A → B) (from : Kind A) (to : Kind B) (plain_is : (x : A) → to.plain (f x) ≡ from.plain x) (random_is : (j b : ℕ) → to.random j (Byte b) ≡ f (from.random j (Byte b))) where
  sent_map : (t n : ℕ) → ((j : ℕ) (x : PlainToken) → to.sent t n j x ≡ f (from.sent t n j x)) → (j : ℕ) (xs : List PlainToken) → sent_from to t n j xs ≡ map f (sent_from from t n j xs)
  sent_map t n alike j [] = refl
  sent_map t n alike j (x ∷ xs) = rw (alike j x, sent_map t n alike (suc j) xs) refl

  -- what a node sends is the same, mapped
  abbrev IsSentHere : ℕ → Option (Node A) → Type 0
  IsSentHere t o = (T : Terminal A) → o ≡ Some (NodeOf.Terminal T) → (j : ℕ) (x : PlainToken) → to.sent t (length T.sent) j x ≡ f (from.sent t (length T.sent) j x)

  send_map : (t : ℕ) (p : Packet) (n : Node A) → IsSentHere t (Some n) → node_send to t p (map_node f n) ≡ option_map (map_node f) (node_send from t p n)
  send_map t p n alike = search (arith, sent_map, map-append)

  abbrev pub map_done : Reply × Network A → Reply × Network B
  map_done r = (r.0, map_network f r.1)

  -- acts and replies over the other kind
  abbrev map_action : ActionOf A → ActionOf B
  map_action (ActionOf.Enter l x) = ActionOf.Enter l (f x)
  map_action (ActionOf.Leave l) = ActionOf.Leave l
  map_action (ActionOf.CreditOut l) = ActionOf.CreditOut l
  map_action (ActionOf.CreditIn l) = ActionOf.CreditIn l
  map_action (ActionOf.Input l word) = ActionOf.Input l word
  map_action (ActionOf.Claim i o) = ActionOf.Claim i o
  map_action (ActionOf.Control bytes) = ActionOf.Control bytes

  abbrev map_act : ActOf A → ActOf B
  map_act (ActOf.Step a) = ActOf.Step (map_action a)
  map_act (ActOf.Send packet) = ActOf.Send packet
  map_act ActOf.Drain = ActOf.Drain
  map_act ActOf.Leave = ActOf.Leave
  map_act (ActOf.Enter x) = ActOf.Enter (f x)
  map_act ActOf.CreditOut = ActOf.CreditOut
  map_act ActOf.CreditIn = ActOf.CreditIn

  abbrev map_reply : ReplyOf A → ReplyOf B
  map_reply ReplyOf.Done = ReplyOf.Done
  map_reply ReplyOf.NotReady = ReplyOf.NotReady
  map_reply (ReplyOf.Token x) = ReplyOf.Token (f x)
  map_reply (ReplyOf.Control bytes) = ReplyOf.Control bytes

  abbrev map_acts : Acts A → Acts B
  map_acts (Acts.Alone k a) = Acts.Alone k (map_act a)
  map_acts (Acts.Joint p q crossing) = Acts.Joint p q crossing

  abbrev map_made : ReplyOf A × Node A → ReplyOf B × Node B
  map_made z = (map_reply z.0, map_node f z.1)

  abbrev map_all : ReplyOf A × List (Node A) → ReplyOf B × List (Node B)
  map_all z = (map_reply z.0, map (map_node f) z.1)

  done_map : (made : Option (Node A)) (made' : Option (Node B)) → made' ≡ option_map (map_node f) made → done_by {A = B} made' ≡ option_map map_made (done_by {A = A} made)
  done_map made made' e = bind_both (map_node f) map_made made made' _ _ e (λ n. refl)

  moved_map : (made : Option (A × Node A)) (made' : Option (B × Node B)) → made' ≡ option_map (λ (z : A × Node A). (f z.0, map_node f z.1)) made → token_by made' ≡ option_map map_made (token_by made)
  moved_map made made' e = bind_both _ map_made made made' _ _ e (λ r. refl)

  replied_map : (made : Option (List ℕ × Node A)) (made' : Option (List ℕ × Node B)) → made' ≡ option_map (λ (z : List ℕ × Node A). (z.0, map_node f z.1)) made → control_by {A = B} made' ≡ option_map map_made (control_by {A = A} made)
  replied_map made made' e = bind_both _ map_made made made' _ _ e (λ r. refl)

  -- what an act sends is the same, mapped
  abbrev IsSentBy : ℕ → Option (Node A) → ActOf A → Type 0
  IsSentBy number o (ActOf.Send packet) = IsSentHere number o
  IsSentBy number o a = Unit {0}

  -- an act of a node
  act_map : (number : ℕ) (a : ActOf A) (n : Node A) → IsSentBy number (Some n) a → node_act to number (map_act a) (map_node f n) ≡ option_map map_made (node_act from number a n)
  act_map number (ActOf.Step (ActionOf.Enter l x)) (NodeOf.Switch S) alike = done_map _ _ (enter_node_map f x l (NodeOf.Switch S))
  act_map number (ActOf.Step (ActionOf.Leave l)) (NodeOf.Switch S) alike = moved_map _ _ (leave_node_map f l (NodeOf.Switch S))
  act_map number (ActOf.Step (ActionOf.CreditOut l)) (NodeOf.Switch S) alike = done_map _ _ (credit_out_node_map f l (NodeOf.Switch S))
  act_map number (ActOf.Step (ActionOf.CreditIn l)) (NodeOf.Switch S) alike = done_map _ _ (credit_in_node_map f l (NodeOf.Switch S))
  act_map number (ActOf.Step (ActionOf.Input l word)) (NodeOf.Switch S) alike = done_map _ _ (input_node_map f from to plain_is random_is l word (NodeOf.Switch S))
  act_map number (ActOf.Step (ActionOf.Claim i o)) (NodeOf.Switch S) alike = done_map _ _ (claim_node_map f from to plain_is random_is i o (NodeOf.Switch S))
  act_map number (ActOf.Step (ActionOf.Control bytes)) (NodeOf.Switch S) alike = replied_map (node_control bytes (NodeOf.Switch S)) (node_control bytes (map_node f (NodeOf.Switch S))) (control_node_map f bytes (NodeOf.Switch S))
  act_map number (ActOf.Send packet) n alike = done_map _ _ (send_map number packet n alike)
  act_map number ActOf.Drain n alike = moved_map _ _ (drain_node_map f n)
  act_map number ActOf.Leave (NodeOf.Terminal T) alike = moved_map _ _ (leave_node_map f 0 (NodeOf.Terminal T))
  act_map number (ActOf.Enter x) (NodeOf.Terminal T) alike = done_map _ _ (enter_node_map f x 0 (NodeOf.Terminal T))
  act_map number ActOf.CreditOut (NodeOf.Terminal T) alike = done_map _ _ (credit_out_node_map f 0 (NodeOf.Terminal T))
  act_map number ActOf.CreditIn (NodeOf.Terminal T) alike = done_map _ _ (credit_in_node_map f 0 (NodeOf.Terminal T))
  act_map number a n alike = refl

  near_map : (crossing : Crossing) (p : Port) → near_act crossing p ≡ map_act (near_act crossing p)
  near_map crossing p = search arith

  far_map : (q : Port) (r : ReplyOf A) → far_act q (map_reply r) ≡ map_act (far_act q r)
  far_map q r = search arith

  near_alike : (crossing : Crossing) (p : Port) (o : Option (Node A)) → IsSentBy 0 o (near_act crossing p)
  near_alike crossing p o = search arith

  far_alike : (q : Port) (r : ReplyOf A) (o : Option (Node A)) → IsSentBy 0 o (far_act q r)
  far_alike q r o = search arith

  nodes_map : (nodes : List (Node A)) (k number : ℕ) (a : ActOf A) (b : ActOf B) → b ≡ map_act a → IsSentBy number (slice_get nodes k) a → nodes_act to (map (map_node f) nodes) k number b ≡ option_map map_all (nodes_act from nodes k number a)
  nodes_map nodes k number a b same alike = search (arith, slice_get-map, bind_both, act_map, map-set)

  -- what acts send is the same, mapped
  abbrev AreSentAlike : Plan → List (Node A) → Acts A → Type 0
  AreSentAlike plan nodes (Acts.Alone k a) = IsSentBy (k - length plan.switches) (slice_get nodes k) a
  AreSentAlike plan nodes (Acts.Joint p q crossing) = Unit {0}

  -- the step of some acts
  acts_map : (plan : Plan) (nodes : List (Node A)) (acts : Acts A) → AreSentAlike plan nodes acts → acts_step to plan (map (map_node f) nodes) (map_acts acts) ≡ option_map map_all (acts_step from plan nodes acts)
  acts_map plan nodes (Acts.Alone k a) alike = nodes_map nodes k (k - length plan.switches) a (map_act a) refl alike
  acts_map plan nodes (Acts.Joint p q crossing) alike =
      bind_both map_all map_all (nodes_act from nodes (port_place plan p) 0 (near_act crossing p)) _ _ _ (nodes_map nodes (port_place plan p) 0 (near_act crossing p) (near_act crossing p) (near_map crossing p) (near_alike crossing p (slice_get nodes (port_place plan p)))) (λ r.
      bind_both map_all map_all (nodes_act from r.1 (port_place plan q) 0 (far_act q r.0)) _ _ _ (nodes_map r.1 (port_place plan q) 0 (far_act q r.0) (far_act q (map_reply r.0)) (far_map q r.0) (far_alike q r.0 (slice_get r.1 (port_place plan q)))) (λ s. refl))

  -- the acts of an event
  crossing_map : (crossing : Crossing) (p : Port) (o : Option Port) → crossing_acts crossing p o ≡ option_map map_acts (crossing_acts crossing p o)
  crossing_map crossing p o = search arith

  events_map : (plan : Plan) (e : Event) → event_acts plan e ≡ option_map map_acts (event_acts plan e)
  events_map plan e = search (arith, crossing_map)

  plain_map : (r : ReplyOf A) → plain_reply to (map_reply r) ≡ plain_reply from r
  plain_map r = search arith

  told_map : (net : Network A) (made : Option (ReplyOf A × List (Node A))) → told_step to (map_network f net) (option_map map_all made) ≡ option_map map_done (told_step from net made)
  told_map net made = search (arith, plain_map)

  abbrev step_from : {C : Type 0} → Kind C → Network C → Acts C → Option (Reply × Network C)
  step_from kind net acts = told_step kind net (acts_step kind net.plan net.nodes acts)

  waiting_map : (n : Node A) → length (waiting_tokens (map_node f n)) ≡ length (waiting_tokens n)
  waiting_map n = search (arith, length-map)

  arrived_map : (n : Node A) → arrived_tokens (map_node f n) ≡ map f (arrived_tokens n)
  arrived_map n = search arith

  act_limit_map : (o : Option (Node A)) (a : ActOf A) → act_limit (option_map (map_node f) o) (map_act a) ≡ act_limit o a
  act_limit_map o a = search (arith, waiting_map, arrived_map, length-map)

  pub limit_map : (net : Network A) (e : Event) → event_limit (map_network f net) e ≡ event_limit net e
  limit_map net e = search (arith, events_map, slice_get-map, act_limit_map)

  abbrev pub map_answer : Result Reply EventFault × Network A → Result Reply EventFault × Network B
  map_answer r = (r.0, map_network f r.1)

  within_map : (net : Network A) (o : Option EventFault) (r : Reply × Network A) → ◌≡◌ {A = Result Reply EventFault × Network B} (outcome_within_limit to (map_network f net) o (map_done r)) (map_answer (outcome_within_limit from net o r))
  within_map net o r = search arith

  ready_map : (net : Network A) (e : Event) (o : Option (Reply × Network A)) → ◌≡◌ {A = Result Reply EventFault × Network B} (outcome_if_ready to (map_network f net) e (option_map map_done o)) (map_answer (outcome_if_ready from net e o))
  ready_map net e o = search (arith, limit_map, within_map)

  -- what an event sends is the same, mapped, from where the terminal stands
  abbrev pub IsSentAlike : Network A → Event → Type 0
  IsSentAlike net (event.Send t p) = IsSentHere t (slice_get net.nodes (terminal_place net.plan t))
  IsSentAlike net e = Unit {0}

  -- the acts of such an event
  abbrev IsAlike : Network A → Option (Acts A) → Type 0
  IsAlike net o = IfSome o (AreSentAlike net.plan net.nodes)

  crossing_alike : (net : Network A) (crossing : Crossing) (p : Port) (o : Option Port) → IsAlike net (crossing_acts crossing p o)
  crossing_alike net crossing p o = search arith

  acts_alike : (net : Network A) (e : Event) → IsSentAlike net e → IsAlike net (event_acts net.plan e)
  acts_alike net e alike = search (arith, crossing_alike)

  -- a step of the one is a step of the other, with the same reply, where what it sends is the same
  step_alike : (net : Network A) (e : Event) → IsSentAlike net e → network_step to (map_network f net) e ≡ option_map map_done (network_step from net e)
  step_alike net e alike = ap (λ (m : Option (Acts B)). m >>= step_from to (map_network f net)) (events_map net.plan e) ∙ by_acts (event_acts net.plan e) (acts_alike net e alike)
    where
      by_acts : (o : Option (Acts A)) → IsAlike net o → (option_map map_acts o >>= step_from to (map_network f net)) ≡ option_map map_done (o >>= step_from from net)
      by_acts None alike = refl
      by_acts (Some acts) alike = ap (told_step to (map_network f net)) (acts_map net.plan net.nodes acts alike) ∙ told_map net (acts_step from net.plan net.nodes acts)

  there_alike : (net : Network A) (e : Event) → IsSentAlike net e → (o : Option EventFault) → ◌≡◌ {A = Result Reply EventFault × Network B} (outcome_if_possible to (map_network f net) e o) (map_answer (outcome_if_possible from net e o))
  there_alike net e alike o = search (arith, step_alike, ready_map)

  -- an event is answered alike, and leaves what it leaves, mapped, where what it sends is the same
  pub apply_alike : (net : Network A) (e : Event) → IsSentAlike net e → ◌≡◌ {A = Result Reply EventFault × Network B} (network_apply to (map_network f net) e) (map_answer (network_apply from net e))
  apply_alike net e alike = there_alike net e alike (event_fault net.plan e)

  -- what is told of all that may be sent
  module _ (sent_is : (t n j : ℕ) (x : PlainToken) → to.sent t n j x ≡ f (from.sent t n j x)) where
    all_alike : (net : Network A) (e : Event) → IsSentAlike net e
    all_alike net e = search arith

    -- a step of the one is a step of the other, with the same reply
    pub step_map : (net : Network A) (e : Event) → network_step to (map_network f net) e ≡ option_map map_done (network_step from net e)
    step_map net e = step_alike net e (all_alike net e)

    -- an event is answered alike, and leaves what it leaves, mapped
    pub apply_map : (net : Network A) (e : Event) → ◌≡◌ {A = Result Reply EventFault × Network B} (network_apply to (map_network f net) e) (map_answer (network_apply from net e))
    apply_map net e = apply_alike net e (all_alike net e)

    -- a run over the other kind, from where a network is mapped to, is that of a run over the one, with the same replies
    pub run_lift : (net : Network A) (ended : Network B) (events : List (Event × Reply)) → IsDoneRun to (map_network f net) events ended → (last : Network A) × IsDoneRun from net events last × (map_network f last ≡ ended)
    run_lift net ended [] is = (net, refl, sym is)
    run_lift net ended (e ∷ events) is =
        let same : ◌≡◌ {A = Result Reply EventFault × Network B} (Ok e.1, is.0) (map_answer (network_apply from net e.0)) = is.1 ∙ apply_map net e.0 in
        let done : ◌≡◌ {A = Result Reply EventFault × Network A} (Ok e.1, (network_apply from net e.0).1) (network_apply from net e.0) = ap (λ (z : Result Reply EventFault × Network B). (z.0, (network_apply from net e.0).1)) same in
        let next : is.0 ≡ map_network f (network_apply from net e.0).1 = ap (λ (z : Result Reply EventFault × Network B). z.1) same in
        let rest = run_lift (network_apply from net e.0).1 ended events (subst (λ n. IsDoneRun to n events ended) next is.3) in
        (rest.0, ((network_apply from net e.0).1, done, is.2, rest.1), rest.2)
