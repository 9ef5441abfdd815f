-- An event keeps the plan.
use Rattle.{c104_event.specs.declared.{events.Event.Event, faults.EventFault.EventFault}, c104_link.proofs.MadeSteps.given}
use Rattle.{c104_node.specs.{Acts.plain_reply, Nodes.Node}, c104_run.specs.{EventActs.{acts_step, event_acts}, Network.Network}}
use Rattle.c104_run.specs.Network.{event_fault, event_limit, network_apply, network_step, outcome_if_possible, outcome_if_ready}
use Rattle.{c104_run.specs.Network.{outcome_within_limit, with_nodes}, c104_switch.specs.Actions.Reply, c104_token.specs.Kinds.Kind}
use Rattle.std.proofs.Common.{List, None, Option, Some, arith, refl, ◌≡◌}

module _ {A : Type 0} (kind : Kind A) (net : Network A) where
  by_last : (told : Reply) (nodes : List (Node A)) (r : Reply × Network A) → ◌≡◌ {A = Option (Reply × Network A)} (Some (told, with_nodes net nodes)) (Some r) → r.1.plan ≡ net.plan
  by_last told nodes r is = search arith

  step_plan : (e : Event) (r : Reply × Network A) → network_step kind net e ≡ Some r → r.1.plan ≡ net.plan
  step_plan e r is = given (event_acts net.plan e) _ r is (λ acts known more. given (acts_step kind net.plan net.nodes acts) _ r more (λ made stepped last. by_last (plain_reply kind made.0) made.1 r last))

  by_limit : (limit : Option EventFault) (r : Reply × Network A) → r.1.plan ≡ net.plan → (outcome_within_limit kind net limit r).1.plan ≡ net.plan
  by_limit limit r same = search arith

  by_step : (e : Event) (made : Option (Reply × Network A)) → network_step kind net e ≡ made → (outcome_if_ready kind net e made).1.plan ≡ net.plan
  by_step e None made = refl
  by_step e (Some r) made = by_limit (event_limit net e) r (step_plan e r made)

  by_fault : (e : Event) (fault : Option EventFault) → (outcome_if_possible kind net e fault).1.plan ≡ net.plan
  by_fault e fault = search (arith, by_step)

  pub apply_plan : (e : Event) → (network_apply kind net e).1.plan ≡ net.plan
  apply_plan e = by_fault e (event_fault net.plan e)
