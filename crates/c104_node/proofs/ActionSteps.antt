-- An action of a switch is the same step of the node that is the switch.
use Rattle.{c104_link.specs.Steps.◌>>=◌, c104_node.specs.{Acts.{done_by, node_step, reply_outcome, token_by}, Nodes.{Node, as_switch}}}
use Rattle.{c104_node.specs.declared.node.NodeOf.TheVariants.Switch, c104_switch.specs.Actions.{done_outcome, is_ready, switch_step}}
use Rattle.c104_switch.specs.{Actions.token_outcome, Claims.switch_claim, Switch.{Switch as State, switch_credit_in, switch_credit_out}}
use Rattle.c104_switch.specs.{Switch.{switch_enter, switch_leave}, Turns.switch_input, declared.actions.ActionOf.ActionOf}
use Rattle.{c104_switch.specs.declared.actions.ReplyOf.ReplyOf, c104_token.specs.Kinds.Kind, std.proofs.Common.{None, Option, Some}}
use Rattle.std.proofs.Common.{is_some, refl, ◌≡◌}

module _ {A : Type 0} (kind : Kind A) (s : State A) where
  -- an answer of the switch, as one of the node
  abbrev as_node : ReplyOf A × State A → ReplyOf A × Node A
  as_node r = (r.0, Switch r.1)

  by_done : (made : Option (State A)) → reply_outcome (done_by (made >>= as_switch)) (Switch s) ≡ as_node (done_outcome made s)
  by_done None = refl
  by_done (Some t) = refl

  by_token : (made : Option (A × State A)) → reply_outcome (token_by (made >>= (λ r. Some (r.0, Switch r.1)))) (Switch s) ≡ as_node (token_outcome made s)
  by_token None = refl
  by_token (Some r) = refl

  -- what the action answers and leaves
  pub step_as_node : (a : ActionOf A) → reply_outcome (node_step kind a (Switch s)) (Switch s) ≡ as_node (switch_step kind s a)
  step_as_node (ActionOf.Enter l x) = by_done (switch_enter s l x)
  step_as_node (ActionOf.Leave l) = by_token (switch_leave s l)
  step_as_node (ActionOf.CreditOut l) = by_done (switch_credit_out s l)
  step_as_node (ActionOf.CreditIn l) = by_done (switch_credit_in s l)
  step_as_node (ActionOf.Input l word) = by_done (switch_input kind s l word)
  step_as_node (ActionOf.Claim i o) = by_done (switch_claim s i o)
  step_as_node (ActionOf.Control bytes) = refl

  ready_done : (made : Option (State A)) → is_ready (done_outcome made s).0 ≡ is_some (done_by {A = A} (made >>= as_switch))
  ready_done None = refl
  ready_done (Some t) = refl

  ready_token : (made : Option (A × State A)) → is_ready (token_outcome made s).0 ≡ is_some (token_by (made >>= (λ r. Some (r.0, Switch r.1))))
  ready_token None = refl
  ready_token (Some r) = refl

  -- whether it is done
  pub ready_as_node : (a : ActionOf A) → is_ready (switch_step kind s a).0 ≡ is_some (node_step kind a (Switch s))
  ready_as_node (ActionOf.Enter l x) = ready_done (switch_enter s l x)
  ready_as_node (ActionOf.Leave l) = ready_token (switch_leave s l)
  ready_as_node (ActionOf.CreditOut l) = ready_done (switch_credit_out s l)
  ready_as_node (ActionOf.CreditIn l) = ready_done (switch_credit_in s l)
  ready_as_node (ActionOf.Input l word) = ready_done (switch_input kind s l word)
  ready_as_node (ActionOf.Claim i o) = ready_done (switch_claim s i o)
  ready_as_node (ActionOf.Control bytes) = refl
