-- The step of some acts: what it answers is a reply, and of what crosses a wire it is what crossed.
use Rattle.{c104_event.specs.declared.events.Event.Event, c104_link.{proofs.MadeSteps.{from_place_made, given}, specs.Steps.◌>>=◌}}
use Rattle.c104_node.{proofs.{JointEnds.{near_answers, ready_answer}, ReadyActs.act_ready}, specs.{Acts.nodes_act, Nodes.Node}}
use Rattle.c104_node.specs.{PortActs.{Acts, IsAnswerOf, joint_step, near_act}, declared.crossings.Crossing.Crossing}
use Rattle.{c104_plan.specs.{Plans.Plan, Wiring.peer, declared.ports.Port.Port}, c104_run.specs.EventActs.{acts_step, crossing_acts}}
use Rattle.{c104_run.specs.{EventActs.{event_acts, port_place}, Network.{Network, told_step}}, c104_switch.specs.Actions.is_ready}
use Rattle.{c104_switch.specs.declared.actions.ReplyOf.ReplyOf, c104_token.specs.Kinds.Kind, std.proofs.Common.{List, None, Option, Some}}
use Rattle.std.proofs.Common.{arith, true, ℕ, ◌≡◌}

module _ {A : Type 0} (kind : Kind A) where
  -- what crosses a wire answers that, and nodes stand at both ends
  pub joint_answers : (near far : ℕ) (p q : Port) (crossing : Crossing) (nodes : List (Node A)) (r : ReplyOf A × List (Node A)) → joint_step kind near far p q crossing nodes ≡ Some r → IsAnswerOf crossing r.0
  joint_answers near far p q crossing nodes r is = search (arith, given, from_place_made, near_answers)

  -- the step of acts answers something else than that they aren't ready
  pub step_ready : (plan : Plan) (nodes : List (Node A)) (acts : Acts A) (r : ReplyOf A × List (Node A)) → acts_step kind plan nodes acts ≡ Some r → is_ready r.0 ≡ true
  step_ready plan nodes acts r is = search (arith, from_place_made, act_ready, ready_answer, joint_answers)

-- what crosses a wire in an event crosses that of its port
pub joint_wired : {A : Type 0} (plan : Plan) (e : Event) (p q : Port) (crossing : Crossing) → ◌≡◌ {A = Option (Acts A)} (event_acts plan e) (Some (Acts.Joint p q crossing)) → peer plan p ≡ Some q
joint_wired {A} plan e p q crossing is = search arith

-- where the near end isn't ready, nothing crosses
module _ {A : Type 0} (kind : Kind A) where
  pub joint_unready : (net : Network A) (crossing : Crossing) (p : Port) → nodes_act kind net.nodes (port_place net.plan p) 0 (near_act crossing p) ≡ None → (o : Option Port) → (crossing_acts crossing p o >>= (λ acts. told_step kind net (acts_step kind net.plan net.nodes acts))) ≡ None
  joint_unready net crossing p none o = search arith
