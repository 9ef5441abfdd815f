-- A reason of an event holds of the node at its port.
use Rattle.{c104_event.specs.declared.{events.Event.Event, faults.EventFault.EventFault}, c104_link.specs.Steps.◌>>=◌}
use Rattle.c104_node.specs.{NodeReasons.{node_claim_why, node_drain_why, node_input_why}, Nodes.Node, PortActs.Acts}
use Rattle.c104_node.specs.declared.{acts.ActOf.ActOf, crossings.Crossing.{Crossing, TheVariants.{Grant, Token}}}
use Rattle.{c104_node.specs.declared.node.NodeOf.TheVariants.{Switch, Terminal}, c104_plan.specs.{Wiring.peer, declared.ports.Port.Port}}
use Rattle.c104_run.specs.{Ends.end_of, EventActs.{Ask, ask_acts, event_ask}, Network.{Network, event_fault, terminal_place}}
use Rattle.c104_run.specs.ReasonMeanings.{IsAloneReason, IsAskReason, IsDrainReason, IsEventReason, IsFarReason, IsInputReason}
use Rattle.c104_run.specs.{ReasonMeanings.{IsNearReason, IsNodeClaimReason, IsSaid, IsSaidAt}, Reasons.{acts_why, alone_why, claim_reason}}
use Rattle.c104_run.specs.Reasons.{end_why, event_why, far_why, near_why, network_why, unless_refused}
use Rattle.c104_switch.proofs.ReasonsHold.{accept_says, credited_says, emit_says, grant_says, reason_holds, take_says}
use Rattle.c104_switch.specs.{ReasonMeanings.{IsAcceptReason, IsCreditedReason, IsEmitReason, IsGrantReason, IsReason}, Reasons.enter_why}
use Rattle.{c104_switch.specs.{Reasons.why_at, declared.{actions.ActionOf.ActionOf, unready.Unready.Unready}}, std.proofs.Common.IfSome}
use Rattle.std.{proofs.Common.{List, None, Option, Some, arith, inl, inr, length, refl, slice_get, ℕ, ◌-◌, ◌≡◌}, specs.Option.option_map}
use Rattle.std.specs.Option.{option_or}

-- what is said of a reason is said of it at its port
carried : {X : Type 0} (f : Unready → X) (P : Unready → Type 0) (Q : X → Type 0) → ((u : Unready) → P u → Q (f u)) → (why : Option Unready) → IfSome why P → IfSome (option_map f why) Q
carried f P Q gives why said = search arith

-- for all that is said of a token that comes in
for_all : {A : Type 0} (P : A → Unready → Type 0) (why : Option Unready) → ((x : A) → IfSome why (P x)) → IfSome why (λ u. (x : A) → P x u)
for_all P why said = search arith

module _ {A : Type 0} where
  near_says : (crossing : Crossing) (l : ℕ) (n : Node A) → IfSome (near_why crossing l n) (IsNearReason crossing l n)
  near_says Token l (Switch s) = reason_holds s (ActionOf.Leave l)
  near_says Token l (Terminal t) = emit_says (IsEmitReason t.output) t.output (λ none. none) (λ some none. (some, none))
  near_says Grant l (Switch s) = reason_holds s (ActionOf.CreditOut l)
  near_says Grant l (Terminal t) = grant_says (IsGrantReason t.input) t.input (λ full. full)

  far_says : (crossing : Crossing) (l : ℕ) (n : Node A) → IfSome (far_why crossing l n) (IsFarReason crossing l n)
  far_says Token l (Switch s) = for_all (λ x. IsReason s (ActionOf.Enter l x)) (enter_why s l) (λ x. reason_holds s (ActionOf.Enter l x))
  far_says Token l (Terminal t) = accept_says (IsAcceptReason t.input) t.input (λ none. none)
  far_says Grant l (Switch s) = reason_holds s (ActionOf.CreditIn l)
  far_says Grant l (Terminal t) = credited_says (IsCreditedReason t.output) t.output (λ full. full)

  input_says : (l word : ℕ) (n : Node A) → IfSome (node_input_why l n) (IsInputReason l word n)
  input_says l word (Switch s) = reason_holds s (ActionOf.Input l word)
  input_says l word (Terminal t) = refl

  claim_says : (i o : ℕ) (n : Node A) → IfSome (node_claim_why i o n) (IsNodeClaimReason i o n)
  claim_says i o (Switch s) = reason_holds s (ActionOf.Claim i o)
  claim_says i o (Terminal t) = refl

  drain_says : (n : Node A) → IfSome (node_drain_why n) (IsDrainReason n)
  drain_says n = search (arith, take_says)

  -- the same of the node at a place
  said_at : (nodes : List (Node A)) (place : ℕ) (why : Node A → Option Unready) (Says : Node A → Unready → Type 0) → ((n : Node A) → IfSome (why n) (Says n)) → IfSome (why_at nodes place why) (IsSaid Says (slice_get nodes place))
  said_at nodes place why Says said = search arith

  module _ (net : Network A) where
    end_says : (p : Port) (why : ℕ → Node A → Option Unready) (Says : ℕ → Node A → Unready → Type 0) → ((l : ℕ) (n : Node A) → IfSome (why l n) (Says l n)) → IfSome (end_why net.nodes (end_of net.plan p) why) (IsSaidAt net Says p)
    end_says p why Says said = said_at net.nodes (end_of net.plan p).node (why (end_of net.plan p).link) (Says (end_of net.plan p).link) (said (end_of net.plan p).link)

    joint_says : (p q : Port) → peer net.plan p ≡ Some q → (crossing : Crossing) → IfSome (acts_why net (Acts.Joint p q crossing)) (IsAskReason net (Ask.Over p crossing))
    joint_says p q wired crossing = by_near (end_why net.nodes (end_of net.plan p) (near_why crossing)) (end_says p (near_why crossing) (IsNearReason crossing) (near_says crossing))
      where
        by_near : (why : Option Unready) → IfSome why (IsSaidAt net (IsNearReason crossing) p) → IfSome (option_or (option_map (λ u. record { port = p; unready = u }) why) (option_map (λ u. record { port = q; unready = u }) (end_why net.nodes (end_of net.plan q) (far_why crossing)))) (IsAskReason net (Ask.Over p crossing))
        by_near (Some u) said = inl (refl, said)
        by_near None said = carried (λ u. record { port = q; unready = u }) (IsSaidAt net (IsFarReason crossing) q) (IsAskReason net (Ask.Over p crossing)) (λ u said. inr (wired, said)) (end_why net.nodes (end_of net.plan q) (far_why crossing))
            (end_says q (far_why crossing) (IsFarReason crossing) (far_says crossing))

    alone_says : (k : ℕ) (a : ActOf A) → IfSome (alone_why net k a) (IsAloneReason net k a)
    alone_says k (ActOf.Step (ActionOf.Input l word)) = carried (λ u. record { port = Port.Switch k l; unready = u }) (IsSaid (IsInputReason l word) (slice_get net.nodes k)) (IsAloneReason net k (ActOf.Step (ActionOf.Input l word))) (λ u said. (refl, said)) (why_at net.nodes k (node_input_why l))
        (said_at net.nodes k (node_input_why l) (IsInputReason l word) (input_says l word))
    alone_says k (ActOf.Step (ActionOf.Claim i o)) = carried (claim_reason k i o) (IsSaid (IsNodeClaimReason i o) (slice_get net.nodes k)) (IsAloneReason net k (ActOf.Step (ActionOf.Claim i o))) (λ u said. (refl, said)) (why_at net.nodes k (node_claim_why i o))
        (said_at net.nodes k (node_claim_why i o) (IsNodeClaimReason i o) (claim_says i o))
    alone_says k ActOf.Drain = carried (λ u. record { port = Port.Terminal (k - length net.plan.switches); unready = u }) (IsSaid IsDrainReason (slice_get net.nodes k)) (IsAloneReason net k ActOf.Drain) (λ u said. (refl, said)) (why_at net.nodes k node_drain_why)
        (said_at net.nodes k node_drain_why IsDrainReason drain_says)
    alone_says k a = tt

    says : (ask : Ask A) → IfSome (ask_acts net.plan ask >>= acts_why net) (IsAskReason net ask)
    says (Ask.Switch s a) = alone_says s (ActOf.Step a)
    says (Ask.Terminal t a) = alone_says (terminal_place net.plan t) a
    says (Ask.Over p crossing) = search (arith, joint_says)

    pub event_reason_holds : (e : Event) → IfSome (network_why net e) (IsEventReason net e)
    event_reason_holds e = by_fault (event_fault net.plan e)
      where
        by_fault : (f : Option EventFault) → IfSome (unless_refused f (event_why net e)) (IsEventReason net e)
        by_fault None = says (event_ask e)
        by_fault (Some f) = tt
