-- What each act of an event of a round keeps of a node is kept by the event.
pub use Rattle.c104_net.specs.RoundEvents.{IsOfRound}
use Rattle.{c104_event.specs.declared.events.Event.Event, c104_link.proofs.MadeSteps.{from_place_made, given}, c104_node.specs.Acts.done_by}
use Rattle.c104_node.specs.{Acts.{node_act, nodes_act, plain_reply, token_by}, Nodes.{Node, node_claim, node_credit_in, node_credit_out}}
use Rattle.c104_node.specs.{Nodes.{node_drain, node_enter, node_input, node_leave}, PortActs.{Acts, far_act, near_act}}
use Rattle.c104_node.specs.declared.{acts.ActOf.ActOf, crossings.Crossing.{Crossing, TheVariants.{Grant, Token}}, node.NodeOf.NodeOf}
use Rattle.{c104_plan.specs.{Plans.Plan, Wiring.peer, declared.ports.Port.Port}, c104_run.specs.EventActs.{Ask, acts_step, ask_acts}}
use Rattle.c104_run.specs.{EventActs.{crossing_acts, event_acts, event_ask, port_place}, Network.{Network, network_of, network_step}}
use Rattle.{c104_switch.specs.{Actions.Reply, declared.actions.{ActionOf.ActionOf, ReplyOf.ReplyOf}}, c104_token.specs.Kinds.Kind}
use Rattle.std.proofs.Common.{IfSome, List, None, Option, Some, length, refl, slice_get, slice_set, subst, ℕ, ◌-◌, ◌≡◌}

-- an act of such an event
abbrev pub IsPlainAct : {A : Type 0} → ActOf A → Type 0
IsPlainAct (ActOf.Step (ActionOf.Control bytes)) = ⊥
IsPlainAct (ActOf.Send packet) = ⊥
IsPlainAct a = Unit {0}

abbrev ArePlain : {A : Type 0} → Acts A → Type 0
ArePlain (Acts.Alone k a) = IsPlainAct a
ArePlain (Acts.Joint p q crossing) = Unit {0}

-- what such an event asks
abbrev pub IsPlainAsk : {A : Type 0} → Ask A → Type 0
IsPlainAsk (Ask.Switch s a) = IsPlainAct (ActOf.Step a)
IsPlainAsk (Ask.Terminal t a) = IsPlainAct a
IsPlainAsk (Ask.Over p crossing) = Unit {0}

pub asks_plain : (A : Type 0) (e : Event) → IsOfRound e → IsPlainAsk {A = A} (event_ask e)
asks_plain A (Event.Send t packet) of = absurd of
asks_plain A (Event.Control s bytes) of = absurd of
asks_plain A e of = tt

acts_plain : {A : Type 0} (plan : Plan) (ask : Ask A) → IsPlainAsk ask → IfSome (ask_acts plan ask) ArePlain
acts_plain plan (Ask.Switch s a) plain = plain
acts_plain plan (Ask.Terminal t a) plain = plain
acts_plain {A} plan (Ask.Over p crossing) plain = by_peer (peer plan p)
  where
    by_peer : (o : Option Port) → IfSome (crossing_acts {A = A} crossing p o) ArePlain
    by_peer None = tt
    by_peer (Some q) = tt

-- how a node is changed by the steps of a round's events
module _ {A : Type 0} (kind : Kind A) (Changed : Node A → Node A → Type 0)
    (leaves : (l : ℕ) (n : Node A) (r : A × Node A) → node_leave l n ≡ Some r → Changed n r.1) (enters : (x : A) (l : ℕ) (n m : Node A) → node_enter x l n ≡ Some m → Changed n m)
    (grants : (l : ℕ) (n m : Node A) → node_credit_out l n ≡ Some m → Changed n m) (gains : (l : ℕ) (n m : Node A) → node_credit_in l n ≡ Some m → Changed n m)
    (turns : (l word : ℕ) (n m : Node A) → node_input kind l word n ≡ Some m → Changed n m) (claims : (i o : ℕ) (n m : Node A) → node_claim i o n ≡ Some m → Changed n m)
    (drains : (n : Node A) (r : A × Node A) → node_drain n ≡ Some r → Changed n r.1) where
  by_done : (n : Node A) (made : Option (Node A)) (r : ReplyOf A × Node A) → done_by made ≡ Some r → ((m : Node A) → made ≡ Some m → Changed n m) → Changed n r.1
  by_done n None r is keeps = absurd (cc)
  by_done n (Some m) r is keeps = let same : ◌≡◌ {A = ReplyOf A × Node A} (ReplyOf.Done, m) r = cc in subst (λ (z : ReplyOf A × Node A). Changed n z.1) same (keeps m refl)

  by_token : (n : Node A) (made : Option (A × Node A)) (r : ReplyOf A × Node A) → token_by made ≡ Some r → ((v : A × Node A) → made ≡ Some v → Changed n v.1) → Changed n r.1
  by_token n None r is keeps = absurd (cc)
  by_token n (Some v) r is keeps = let same : ◌≡◌ {A = ReplyOf A × Node A} (ReplyOf.Token v.0, v.1) r = cc in subst (λ (z : ReplyOf A × Node A). Changed n z.1) same (keeps v refl)

  act_keeps : (number : ℕ) (a : ActOf A) → IsPlainAct a → (n : Node A) (r : ReplyOf A × Node A) → node_act kind number a n ≡ Some r → Changed n r.1
  act_keeps number (ActOf.Step (ActionOf.Enter l x)) plain (NodeOf.Switch s) r is = by_done (NodeOf.Switch s) (node_enter x l (NodeOf.Switch s)) r is (enters x l (NodeOf.Switch s))
  act_keeps number (ActOf.Step (ActionOf.Leave l)) plain (NodeOf.Switch s) r is = by_token (NodeOf.Switch s) (node_leave l (NodeOf.Switch s)) r is (leaves l (NodeOf.Switch s))
  act_keeps number (ActOf.Step (ActionOf.CreditOut l)) plain (NodeOf.Switch s) r is = by_done (NodeOf.Switch s) (node_credit_out l (NodeOf.Switch s)) r is (grants l (NodeOf.Switch s))
  act_keeps number (ActOf.Step (ActionOf.CreditIn l)) plain (NodeOf.Switch s) r is = by_done (NodeOf.Switch s) (node_credit_in l (NodeOf.Switch s)) r is (gains l (NodeOf.Switch s))
  act_keeps number (ActOf.Step (ActionOf.Input l word)) plain (NodeOf.Switch s) r is = by_done (NodeOf.Switch s) (node_input kind l word (NodeOf.Switch s)) r is (turns l word (NodeOf.Switch s))
  act_keeps number (ActOf.Step (ActionOf.Claim i o)) plain (NodeOf.Switch s) r is = by_done (NodeOf.Switch s) (node_claim i o (NodeOf.Switch s)) r is (claims i o (NodeOf.Switch s))
  act_keeps number (ActOf.Step (ActionOf.Control bytes)) plain n r is = absurd plain
  act_keeps number (ActOf.Send packet) plain n r is = absurd plain
  act_keeps number ActOf.Drain plain n r is = by_token n (node_drain n) r is (drains n)
  act_keeps number ActOf.Leave plain (NodeOf.Terminal t) r is = by_token (NodeOf.Terminal t) (node_leave 0 (NodeOf.Terminal t)) r is (leaves 0 (NodeOf.Terminal t))
  act_keeps number (ActOf.Enter x) plain (NodeOf.Terminal t) r is = by_done (NodeOf.Terminal t) (node_enter x 0 (NodeOf.Terminal t)) r is (enters x 0 (NodeOf.Terminal t))
  act_keeps number ActOf.CreditOut plain (NodeOf.Terminal t) r is = by_done (NodeOf.Terminal t) (node_credit_out 0 (NodeOf.Terminal t)) r is (grants 0 (NodeOf.Terminal t))
  act_keeps number ActOf.CreditIn plain (NodeOf.Terminal t) r is = by_done (NodeOf.Terminal t) (node_credit_in 0 (NodeOf.Terminal t)) r is (gains 0 (NodeOf.Terminal t))
  act_keeps number a plain n r is = absurd (cc is)

  near_plain : (crossing : Crossing) (p : Port) → IsPlainAct {A = A} (near_act crossing p)
  near_plain Token (Port.Switch s l) = tt
  near_plain Grant (Port.Switch s l) = tt
  near_plain crossing p = tt

  far_plain : (q : Port) (told : ReplyOf A) → IsPlainAct (far_act q told)
  far_plain (Port.Switch s l) (ReplyOf.Token x) = tt
  far_plain (Port.Terminal t) (ReplyOf.Token x) = tt
  far_plain q told = tt

  -- what such a change at a place keeps of all nodes
  module _ (Holds : List (Node A) → Type 0) (sets : (nodes : List (Node A)) (k : ℕ) (n m : Node A) → slice_get nodes k ≡ Some n → Changed n m → Holds nodes → Holds (slice_set nodes k m)) where
    one_keeps : (nodes : List (Node A)) (k number : ℕ) (a : ActOf A) → IsPlainAct a → (r : ReplyOf A × List (Node A)) → nodes_act kind nodes k number a ≡ Some r → Holds nodes → Holds r.1
    one_keeps nodes k number a plain r is holds =
        from_place_made nodes k (node_act kind number a) r is (λ n y here made set. subst (λ (t : ReplyOf A × List (Node A)). Holds t.1) set (sets nodes k n y.1 here (act_keeps number a plain n y made) holds))

    acts_keep : (plan : Plan) (nodes : List (Node A)) (acts : Acts A) → ArePlain acts → (r : ReplyOf A × List (Node A)) → acts_step kind plan nodes acts ≡ Some r → Holds nodes → Holds r.1
    acts_keep plan nodes (Acts.Alone k a) plain r is holds = one_keeps nodes k (k - length plan.switches) a plain r is holds
    acts_keep plan nodes (Acts.Joint p q crossing) plain r is holds =
        given (nodes_act kind nodes (port_place plan p) 0 (near_act crossing p)) _ r is (λ v gone more.
        given (nodes_act kind v.1 (port_place plan q) 0 (far_act q v.0)) _ r more (λ w came last.
        (let same : ◌≡◌ {A = ReplyOf A × List (Node A)} (v.0, w.1) r = cc in
        subst (λ (t : ReplyOf A × List (Node A)). Holds t.1) same
        (one_keeps v.1 (port_place plan q) 0 (far_act q v.0) (far_plain q v.0) w came (one_keeps nodes (port_place plan p) 0 (near_act crossing p) (near_plain crossing p) v gone holds)))))

    -- so an event of a round keeps it
    pub round_keeps : (plan : Plan) (nodes : List (Node A)) (e : Event) → IsOfRound e → (r : Reply × Network A) → network_step kind (network_of plan nodes) e ≡ Some r → Holds nodes → Holds r.1.nodes
    round_keeps plan nodes e of r is holds =
        given (event_acts plan e) _ r is (λ acts known more.
        given (acts_step kind plan nodes acts) _ r more (λ v made last.
        (let plain : ArePlain acts = subst (λ (o : Option (Acts A)). IfSome o ArePlain) known (acts_plain plan (event_ask e) (asks_plain A e of)) in
        let same : ◌≡◌ {A = Reply × Network A} (plain_reply kind v.0, network_of plan v.1) r = cc in
        subst (λ (t : Reply × Network A). Holds t.1.nodes) same (acts_keep plan nodes acts plain v made holds))))
