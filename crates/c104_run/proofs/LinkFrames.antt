-- What crosses from a link of a switch leaves it ready at its other links as it was.
use Rattle.{c104_event.specs.declared.faults.EventFault.EventFault, c104_node.{proofs.PartFrames.joint_keeps, specs.PlaceActs.JointDone}}
use Rattle.c104_node.specs.{Places.{Shown, states}, declared.crossings.{Crossing.{Crossing, TheVariants.{Grant, Token}}, Joint.Joint}}
use Rattle.{c104_node.specs.declared.{port_part.PortPart.PortPart, stamps.Stamp.Stamp}, c104_plan.specs.Plans.Plan}
use Rattle.{c104_plan.specs.declared.ports.Port.Port, c104_run.specs.{Ends.end_of, LinkedSets.{LeavesCrossed, LeavesLinks}}}
use Rattle.{c104_run.specs.RoundParts.crossing_part, c104_switch.specs.declared.actions.ReplyOf.ReplyOf, c104_token.specs.Kinds.Kind}
use Rattle.std.proofs.Common.{Bool, List, Result, refl, subst, ℕ, ◌≡◌, ◌≢◌}

module _ {A : Type 0} (kind : Kind A) (keeps : Bool) (stamp : Stamp) (olds news : List (Shown A)) (answer : Result (ReplyOf A) EventFault) where
  abbrev joint_of : Crossing → Port → Port → Joint
  joint_of crossing p q = record { near = p; far = q; crossing = crossing }

  switch_keeps : (crossing : Crossing) (s l far : ℕ) (q : Port) → s ≢ far → JointDone kind keeps s far (joint_of crossing (Port.Switch s l) q) stamp olds answer news → LeavesLinks kind (crossing_part crossing) s l (states olds) (states news)
  switch_keeps Token s l far q apart done = record { stay = λ other differs. joint_keeps kind l other differs keeps stamp olds news answer s PortPart.Cross far (joint_of Token (Port.Switch s l) q) apart refl done }
  switch_keeps Grant s l far q apart done = record { stay = λ other differs. joint_keeps kind l other differs keeps stamp olds news answer s PortPart.Credit far (joint_of Grant (Port.Switch s l) q) apart refl done }

  pub crossed_keeps : (plan : Plan) (near far : ℕ) (p q : Port) (crossing : Crossing) → near ≢ far → near ≡ (end_of plan p).node → JointDone kind keeps near far (joint_of crossing p q) stamp olds answer news → LeavesCrossed kind crossing p (states olds) (states news)
  crossed_keeps plan near far (Port.Switch s l) q crossing apart same done = switch_keeps crossing s l far q (subst (λ n. n ≢ far) same apart) (subst (λ n. JointDone kind keeps n far (joint_of crossing (Port.Switch s l) q) stamp olds answer news) same done)
  crossed_keeps plan near far (Port.Terminal t) q crossing apart same done = tt
