-- Each event keeps every network in balance.
use Rattle.{c104_event.specs.declared.{events.Event.Event, faults.EventFault.EventFault}, c104_link.proofs.MadeSteps.given}
use Rattle.{c104_link.specs.Steps.{step_at, yield_step_at, ◌>>=◌}, c104_node.proofs.NamedWires.{nodes_credit, nodes_cross}}
use Rattle.c104_node.specs.{Nodes.{Node, node_claim, node_control, node_drain, node_input, node_send}, declared.crossings.Crossing.Crossing}
use Rattle.{c104_node.specs.declared.crossings.Crossing.TheVariants.{Grant, Token}, c104_plan.specs.{Plans.{IsPlan, Plan}, Wiring.peer}}
use Rattle.{c104_plan.specs.declared.ports.Port.Port, c104_run.proofs.{AskCases.{AreCases, of_event}, BalanceNodes.claim_rests}}
use Rattle.c104_run.proofs.{BalanceNodes.{control_rests, drain_rests, input_rests, send_rests}, BalanceSteps.{steady_at, steady_credited}}
use Rattle.c104_run.proofs.{BalanceSteps.{steady_crossed, steady_from}, EventSteps.{claim_named, control_named, credit_named, cross_named}}
use Rattle.c104_run.{proofs.EventSteps.{drain_named, input_named, send_named}, specs.{Balance.IsSteady, Ends.end_of, EventActs.Ask}}
use Rattle.c104_run.specs.{EventActs.{acts_step, ask_acts}, Network.{AnswersEvent, AnswersWith, Network, event_limit, network_of}}
use Rattle.c104_run.specs.Network.{network_step, outcome_if_possible, outcome_if_ready, outcome_within_limit, terminal_place, told_step}
use Rattle.{c104_run.specs.Network.wired_fault, c104_switch.specs.{Actions.Reply, declared.actions.ReplyOf.ReplyOf}}
use Rattle.{c104_token.specs.Kinds.Kind, std.proofs.Common.{Bool, List, None, Option, Result, Some, arith, false, ◌∙◌, ◌≡◌}}

module _ {A : Type 0} (kind : Kind A) (plan : Plan) (is_plan : IsPlan plan) (nodes : List (Node A)) (steady : IsSteady (network_of plan nodes)) where
  abbrev net : Network A
  net = network_of plan nodes

  -- what is answered and left, of the nodes that a step leaves
  by_last : (told : Reply) (after : List (Node A)) (r : Reply × Network A) → ◌≡◌ {A = Option (Reply × Network A)} (Some (told, network_of plan after)) (Some r) → IsSteady (network_of plan after) → IsSteady r.1
  by_last told after r is holds = search arith

  -- what is left of what was asked, where it was ready
  abbrev LeavesSteady : Option EventFault → Ask A → Type 0
  LeavesSteady f ask = (r : Reply × Network A) → (ask_acts plan ask >>= (λ acts. told_step kind net (acts_step kind plan nodes acts))) ≡ Some r → IsSteady r.1

  over_steady : (p : Port) (crossing : Crossing) → LeavesSteady (wired_fault plan p) (Ask.Over p crossing)
  over_steady p Token r is = given (peer plan p) _ r (cross_named kind net is_plan steady.in_place p ∙ is) (λ q wired more. given (nodes_cross nodes (end_of plan p) (end_of plan q)) _ r more (λ v made last.
      by_last (ReplyOf.Token (kind.plain v.0)) v.1 r last (steady_crossed plan is_plan p q wired nodes v made steady)))
  over_steady p Grant r is = given (peer plan p) _ r (credit_named kind net is_plan steady.in_place p ∙ is) (λ q wired more. given (nodes_credit nodes (end_of plan p) (end_of plan q)) _ r more (λ v made last.
      by_last ReplyOf.Done v r last (steady_credited plan is_plan p q wired nodes v made steady)))

  steps_steady : AreCases plan LeavesSteady
  steps_steady = record {
    over = over_steady;
    turn = λ s l word other r is. given (step_at nodes s (node_input kind l word)) _ r (input_named kind net s l word ∙ is) (λ v made last.
        by_last ReplyOf.Done v r last (steady_at plan nodes v s (node_input kind l word) made (input_rests kind l word) steady));
    claim = λ s i o other r is. given (step_at nodes s (node_claim i o)) _ r (claim_named kind net s i o ∙ is) (λ v made last.
        by_last ReplyOf.Done v r last (steady_at plan nodes v s (node_claim i o) made (claim_rests i o) steady));
    control = λ s bytes other r is. given (yield_step_at nodes s (node_control bytes)) _ r (control_named kind net s bytes ∙ is) (λ v made last.
        by_last (ReplyOf.Control v.0) v.1 r last (steady_from plan nodes s (node_control bytes) v made (control_rests bytes) steady));
    send = λ t packet other r is. given (step_at nodes (terminal_place plan t) (node_send kind t packet)) _ r (send_named kind net t packet ∙ is) (λ v made last.
        by_last ReplyOf.Done v r last (steady_at plan nodes v (terminal_place plan t) (node_send kind t packet) made (send_rests kind t packet) steady));
    drain = λ t other r is. given (yield_step_at nodes (terminal_place plan t) node_drain) _ r (drain_named kind net t ∙ is) (λ v made last.
        by_last (ReplyOf.Token (kind.plain v.0)) v.1 r last (steady_from plan nodes (terminal_place plan t) node_drain v made drain_rests steady));
  }

  step_steady : (e : Event) (r : Reply × Network A) → network_step kind net e ≡ Some r → IsSteady r.1
  step_steady e = of_event plan LeavesSteady steps_steady e

  by_limit : (limit : Option EventFault) (r : Reply × Network A) → IsSteady r.1 → IsSteady (outcome_within_limit kind net limit r).1
  by_limit limit r holds = search arith

  by_step : (e : Event) (made : Option (Reply × Network A)) → network_step kind net e ≡ made → IsSteady (outcome_if_ready kind net e made).1
  by_step e None made = steady
  by_step e (Some r) made = by_limit (event_limit net e) r (step_steady e r made)

  by_fault : (e : Event) (fault : Option EventFault) → IsSteady (outcome_if_possible kind net e fault).1
  by_fault e fault = search (arith, by_step)

  -- what an event leaves, whatever it answers
  pub applied_with : (full : Bool) (e : Event) (answer : Result Reply EventFault) (after : Network A) → AnswersWith kind full net e answer after → IsSteady after
  applied_with full e answer after answers = search (arith, by_fault)

  pub applied_steady : (e : Event) (answer : Result Reply EventFault) (after : Network A) → AnswersEvent kind net e answer after → IsSteady after
  applied_steady e answer after is = applied_with false e answer after is
