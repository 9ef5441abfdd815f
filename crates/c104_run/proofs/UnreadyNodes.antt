-- A node, and a wire, has no reason exactly where it can act.
use Rattle.{c104_link.specs.{Buffers.without_first, Steps.{yield_step_at, ◌>>=◌}}, c104_node.proofs.JointEnds.{joint_closed, joint_ready}}
use Rattle.c104_node.specs.{Acts.{node_act, nodes_act}, NodeReasons.{node_claim_why, node_drain_why, node_input_why}, Nodes.Node}
use Rattle.c104_node.specs.{Nodes.{is_switch, node_claim, node_input}, PortActs.{IsAnswerOf, far_act, joint_step, near_act}}
use Rattle.c104_node.specs.declared.{acts.ActOf.ActOf, crossings.Crossing.Crossing, node.NodeOf.TheVariants.{Switch, Terminal}}
use Rattle.{c104_plan.specs.{Plans.{IsPlan, Plan}, Wiring.peer, declared.ports.Port.Port}, c104_run.proofs.BalanceWires.nodes_apart}
use Rattle.c104_run.{proofs.{BalanceWires.peer_back, EventSteps.{fits_there, is_switch_port}}, specs.{Balance.AreInPlace, Ends.end_of}}
use Rattle.c104_run.specs.{EventActs.port_place, Reasons.{end_why, far_why, near_why, port_reason}}
use Rattle.c104_switch.proofs.UnreadyActions.{credit_in_ready, credit_out_ready, enter_ready, input_ready, leave_ready}
use Rattle.c104_switch.proofs.{UnreadyClaims.claim_ready, UnreadySteps.{accept_ready, credited_ready, emit_ready, grant_ready, take_ready}}
use Rattle.c104_switch.specs.{Claims.switch_claim, Reasons.{take_why, why_at}, Turns.switch_input, declared.actions.ActionOf.ActionOf}
use Rattle.{c104_switch.specs.declared.{actions.ReplyOf.ReplyOf, unready.Unready.Unready}, c104_token.specs.Kinds.Kind}
use Rattle.std.proofs.Common.{List, None, Option, Some, [], ap, arith, false, is_none, is_some, not, refl, slice_get, sym, ℕ, ◌++◌, ◌∙◌}
use Rattle.std.{proofs.Common.{◌∷◌, ◌≡◌}, specs.Option.option_or}
use Rattle.c104_node.specs.Terminals as terminal

-- one more step that can always be made
then_made : {X Y : Type 0} (made : Option X) (f : X → Y) → is_some made ≡ is_some (made >>= (λ x. Some (f x)))
then_made made f = search arith

module _ {A : Type 0} (kind : Kind A) where
  -- the acts at the two ends of a wire, of nodes of the ports' kinds
  near_here : (plan : Plan) (crossing : Crossing) (p : Port) (n : Node A) → is_switch n ≡ is_switch_port p → is_none (near_why crossing (end_of plan p).link n) ≡ is_some (node_act kind 0 (near_act crossing p) n)
  near_here plan crossing p n fits = search (arith, leave_ready, then_made, emit_ready, credit_out_ready, grant_ready)

  far_here : (plan : Plan) (crossing : Crossing) (a : ReplyOf A) → IsAnswerOf crossing a → (q : Port) (n : Node A) → is_switch n ≡ is_switch_port q → is_none (far_why crossing (end_of plan q).link n) ≡ is_some (node_act kind 0 (far_act q a) n)
  far_here plan crossing a answers q n fits = search (arith, enter_ready, then_made, accept_ready, credit_in_ready, credited_ready)

  -- those that a node does alone
  pub input_here : (l word number : ℕ) (n : Node A) → is_none (node_input_why l n) ≡ is_some (node_act kind number (ActOf.Step (ActionOf.Input l word)) n)
  input_here l word number (Switch s) = input_ready kind s l word ∙ then_made (switch_input kind s l word) Switch ∙ then_made (node_input kind l word (Switch s)) (λ m. (ReplyOf.Done, m))
  input_here l word number (Terminal t) = refl

  pub claim_here : (i o number : ℕ) (n : Node A) → is_none (node_claim_why i o n) ≡ is_some (node_act kind number (ActOf.Step (ActionOf.Claim i o)) n)
  claim_here i o number (Switch s) = claim_ready s i o ∙ then_made (switch_claim s i o) Switch ∙ then_made (node_claim i o (Switch s)) (λ m. (ReplyOf.Done, m))
  claim_here i o number (Terminal t) = refl

  drained : (t : terminal.Terminal A) → is_none (take_why t.input) ≡ is_some (terminal.terminal_drain t)
  drained t = take_ready t.input ∙ then_made (slice_get t.input.items 0) (λ x. (x, record t { input = without_first t.input; arrived = t.arrived ++ x ∷ [] }))

  pub drain_here : (number : ℕ) (n : Node A) → is_none (node_drain_why n) ≡ is_some (node_act kind number ActOf.Drain n)
  drain_here number n = search (arith, drained, then_made)

-- among all nodes
module _ {X Y : Type 0} (xs : List X) (k : ℕ) (why : X → Option Unready) (f : X → Option (Y × X)) where
  pub step_ready : ((x : X) → slice_get xs k ≡ Some x → is_none (why x) ≡ is_some (f x)) → is_none (why_at xs k why) ≡ is_some (yield_step_at xs k f)
  step_ready here = search arith

-- the two ends of a wire
module _ {A : Type 0} (kind : Kind A) (plan : Plan) (is_plan : IsPlan plan) (nodes : List (Node A)) (placed : AreInPlace plan nodes) (crossing : Crossing) (p q : Port) (wired : peer plan p ≡ Some q) where
  near_ready : is_none (end_why nodes (end_of plan p) (near_why crossing)) ≡ is_some (nodes_act kind nodes (port_place plan p) 0 (near_act crossing p))
  near_ready = step_ready nodes (port_place plan p) (near_why crossing (end_of plan p).link) (node_act kind 0 (near_act crossing p)) (λ n at. near_here kind plan crossing p n (fits_there kind plan is_plan nodes placed p q n wired at))

  far_ready : (a : ReplyOf A) → IsAnswerOf crossing a → is_none (end_why nodes (end_of plan q) (far_why crossing)) ≡ is_some (nodes_act kind nodes (port_place plan q) 0 (far_act q a))
  far_ready a answers = step_ready nodes (port_place plan q) (far_why crossing (end_of plan q).link) (node_act kind 0 (far_act q a)) (λ n at. far_here kind plan crossing a answers q n (fits_there kind plan is_plan nodes placed q p n (peer_back plan is_plan p q wired) at))

  none_of : {X : Type 0} (o : Option X) → false ≡ is_some o → o ≡ None
  none_of o is = search arith

  abbrev crossed : Option (ReplyOf A × List (Node A))
  crossed = joint_step kind (port_place plan p) (port_place plan q) p q crossing nodes

  pub joint_told : is_some (option_or (port_reason p (end_why nodes (end_of plan p) (near_why crossing))) (port_reason q (end_why nodes (end_of plan q) (far_why crossing)))) ≡ is_none crossed
  joint_told = by_ends (end_why nodes (end_of plan p) (near_why crossing)) (end_why nodes (end_of plan q) (far_why crossing)) near_ready far_ready
    where
      by_ends : (near far : Option Unready) → is_none near ≡ is_some (nodes_act kind nodes (port_place plan p) 0 (near_act crossing p)) → ((a : ReplyOf A) → IsAnswerOf crossing a → is_none far ≡ is_some (nodes_act kind nodes (port_place plan q) 0 (far_act q a))) →
          is_some (option_or (port_reason p near) (port_reason q far)) ≡ is_none crossed
      by_ends (Some u) far out come = rw (none_of (nodes_act kind nodes (port_place plan p) 0 (near_act crossing p)) out) refl
      by_ends None (Some u) out come = sym (ap is_none (joint_closed kind p q crossing (port_place plan p) (port_place plan q) nodes (nodes_apart plan is_plan p q wired) come))
      by_ends None None out come = sym (ap not (joint_ready kind p q crossing (port_place plan p) (port_place plan q) nodes (nodes_apart plan is_plan p q wired) out come))
