-- Whether a node may do its act of a part of a round at a link: its act at another link leaves that as it is.
use Rattle.{c104_event.specs.declared.faults.EventFault.EventFault, c104_link.proofs.MadeSteps.{at_place_made, from_place_made, given}}
use Rattle.{c104_link.{proofs.MadeSteps.{required, with_place_made}, specs.Steps.◌>>=◌}, c104_node.proofs.IdleNodes.{act_frame, ended_same}}
use Rattle.c104_node.{proofs.WireEnds.{get_set_other, get_set_same}, specs.{Acts.{done_by, node_act, nodes_act, token_by}, Nodes.Node}}
use Rattle.c104_node.specs.{Nodes.as_switch, PlaceActs.{AloneDone, JointDone}, Places.{Shown, states}, PortActs.{far_act, joint_step}}
use Rattle.c104_node.specs.{PortActs.near_act, PortParts.{is_ready_at, may_act, may_act_at, part_act}, declared.acts.ActOf.ActOf}
use Rattle.c104_node.specs.declared.{crossings.Joint.Joint, node.NodeOf.NodeOf, port_part.PortPart.PortPart, stamps.Stamp.Stamp}
use Rattle.c104_switch.{proofs.Wanting.unturned, specs.{Readiness.may_turn_at, Switch.{Switch as State, switch_credit_out, switch_leave}}}
use Rattle.{c104_switch.specs.{Turns.switch_input, declared.actions.{ActionOf.ActionOf, ReplyOf.ReplyOf}}, c104_token.specs.Kinds.Kind}
use Rattle.std.proofs.Common.{Bool, List, None, Option, Result, Some, ap, arith, false, is_some, refl, slice_get, slice_set, subst, sym, ℕ}
use Rattle.std.{proofs.Common.{◌∙◌, ◌≡◌, ◌≢◌}, specs.Option.option_map_or}

module _ {A : Type 0} (kind : Kind A) (l other : ℕ) (differs : other ≢ l) where
  apart : l ≢ other
  apart same = differs (sym same)

  credit_stays : (s t : State A) → switch_credit_out s l ≡ Some t → is_some (switch_credit_out t other) ≡ is_some (switch_credit_out s other)
  credit_stays s t is = search (arith, apart, required, given, at_place_made, get_set_other)

  leave_stays : (s : State A) (r : A × State A) → switch_leave s l ≡ Some r → is_some (switch_leave r.1 other) ≡ is_some (switch_leave s other)
  leave_stays s r is = search (arith, apart, given, from_place_made, get_set_other)

  turn_stays : (s t : State A) (word : ℕ) → switch_input kind s l word ≡ Some t → may_turn_at t.inputs other ≡ may_turn_at s.inputs other
  turn_stays s t word is = search (arith, apart, required, given, with_place_made, get_set_other)

  some_step : (made : Option (State A)) → is_some (done_by {A = A} (made >>= as_switch)) ≡ is_some made
  some_step None = refl
  some_step (Some s) = refl

  some_leave : (made : Option (A × State A)) → is_some (token_by {A = A} (made >>= (λ r. Some (r.0, NodeOf.Switch r.1)))) ≡ is_some made
  some_leave None = refl
  some_leave (Some r) = refl

  -- a turn with any word
  turn_leaves : (word number : ℕ) (n : Node A) (r : ReplyOf A × Node A) → node_act kind number (ActOf.Step (ActionOf.Input l word)) n ≡ Some r → may_act kind PortPart.Turn other r.1 ≡ may_act kind PortPart.Turn other n
  turn_leaves word number (NodeOf.Switch s) r is = given (switch_input kind s l word >>= as_switch) _ r is (λ n made last. given (switch_input kind s l word) as_switch n made (λ t step same.
      let there : NodeOf.Switch t ≡ r.1 = cc in
      ap (may_act kind PortPart.Turn other) (sym there) ∙ turn_stays s t word step))
  turn_leaves word number (NodeOf.Terminal t) r is = absurd (cc)

  node_stays : (part : PortPart) (number : ℕ) (n : Node A) (r : ReplyOf A × Node A) → node_act kind number (part_act part l) n ≡ Some r → may_act kind part other r.1 ≡ may_act kind part other n
  node_stays PortPart.Credit number (NodeOf.Switch s) r is = given (switch_credit_out s l >>= as_switch) _ r is (λ n made last. given (switch_credit_out s l) as_switch n made (λ t step same.
      let there : NodeOf.Switch t ≡ r.1 = cc in
      ap (may_act kind PortPart.Credit other) (sym there) ∙ some_step (switch_credit_out t other) ∙ credit_stays s t step ∙ sym (some_step (switch_credit_out s other))))
  node_stays PortPart.Cross number (NodeOf.Switch s) r is = given (switch_leave s l >>= (λ g. Some (g.0, NodeOf.Switch g.1))) _ r is (λ n made last. given (switch_leave s l) _ n made (λ t step same.
      let there : NodeOf.Switch t.1 ≡ r.1 = cc in
      ap (may_act kind PortPart.Cross other) (sym there) ∙ some_leave (switch_leave t.1 other) ∙ leave_stays s t step ∙ sym (some_leave (switch_leave s other))))
  node_stays PortPart.Turn number (NodeOf.Switch s) r is = turn_leaves 0 number (NodeOf.Switch s) r is
  node_stays PortPart.Credit number (NodeOf.Terminal t) r is = absurd (cc)
  node_stays PortPart.Cross number (NodeOf.Terminal t) r is = absurd (cc)
  node_stays PortPart.Turn number (NodeOf.Terminal t) r is = absurd (cc)

  -- an act that leaves it in the node leaves it in the network
  nodes_leave : (part : PortPart) (act : ActOf A) (number k : ℕ) (nodes : List (Node A)) (r : ReplyOf A × List (Node A)) → ((n : Node A) (y : ReplyOf A × Node A) → node_act kind number act n ≡ Some y → may_act kind part other y.1 ≡ may_act kind part other n)
      → nodes_act kind nodes k number act ≡ Some r → may_act_at kind part r.1 k other ≡ may_act_at kind part nodes k other
  nodes_leave part act number k nodes r stays is = from_place_made nodes k (node_act kind number act) r is (λ n y here made same.
      let news : slice_set nodes k y.1 ≡ r.1 = cc in
      let may : Option (Node A) → Bool = λ found. option_map_or (may_act kind part other) found false in
      ap (λ ns. may_act_at kind part ns k other) (sym news) ∙ ap may (get_set_same nodes k n y.1 here) ∙ stays n y made ∙ sym (ap may here))

  nodes_stay : (part : PortPart) (number k : ℕ) (nodes : List (Node A)) (r : ReplyOf A × List (Node A)) → nodes_act kind nodes k number (part_act part l) ≡ Some r → may_act_at kind part r.1 k other ≡ may_act_at kind part nodes k other
  nodes_stay part number k nodes r is = nodes_leave part (part_act part l) number k nodes r (node_stays part number) is

  -- what crosses from a link of a switch, at another place
  joint_stay : (part : PortPart) (near far : ℕ) (joint : Joint) → near ≢ far → near_act {A = A} joint.crossing joint.near ≡ part_act part l → (nodes : List (Node A)) (r : ReplyOf A × List (Node A)) → joint_step kind near far joint.near joint.far joint.crossing nodes ≡ Some r →
      may_act_at kind part r.1 near other ≡ may_act_at kind part nodes near other
  joint_stay part near far joint away same nodes r is = given (nodes_act kind nodes near 0 (near_act joint.crossing joint.near)) _ r is (λ v gone more. given (nodes_act kind v.1 far 0 (far_act joint.far v.0)) _ r more (λ w came last.
      let kept : slice_get w.1 near ≡ slice_get v.1 near = act_frame kind v.1 far 0 (far_act joint.far v.0) w came near away in
      let both : ◌≡◌ {A = ReplyOf A × List (Node A)} (v.0, w.1) r = cc in
      ap (λ (z : ReplyOf A × List (Node A)). may_act_at kind part z.1 near other) (sym both)
      ∙ ap (λ n. option_map_or (may_act kind part other) n false) kept
      ∙ nodes_stay part 0 near nodes v (subst (λ a. nodes_act kind nodes near 0 a ≡ Some v) same gone)))

  module _ (keeps : Bool) (stamp : Stamp) (olds news : List (Shown A)) (answer : Result (ReplyOf A) EventFault) (k : ℕ) where
    pub alone_keeps : (part : PortPart) (number : ℕ) → AloneDone kind keeps k number stamp (part_act part l) olds answer news → may_act_at kind part (states news) k other ≡ may_act_at kind part (states olds) k other
    alone_keeps part number done = ended_same kind (λ ns. may_act_at kind part ns k other) _ _ _ (states olds) (states news) answer (λ r made. nodes_stay part number k (states olds) r made) done.ends

    -- a turn with any word
    pub turn_keeps : (word number : ℕ) → AloneDone kind keeps k number stamp (ActOf.Step (ActionOf.Input l word)) olds answer news → may_act_at kind PortPart.Turn (states news) k other ≡ may_act_at kind PortPart.Turn (states olds) k other
    turn_keeps word number done = ended_same kind (λ ns. may_act_at kind PortPart.Turn ns k other) _ _ _ (states olds) (states news) answer (λ r made. nodes_leave PortPart.Turn (ActOf.Step (ActionOf.Input l word)) number k (states olds) r (turn_leaves word number) made) done.ends

    pub joint_keeps : (part : PortPart) (far : ℕ) (joint : Joint) → k ≢ far → near_act {A = A} joint.crossing joint.near ≡ part_act part l → JointDone kind keeps k far joint stamp olds answer news → may_act_at kind part (states news) k other ≡ may_act_at kind part (states olds) k other
    joint_keeps part far joint away same done = ended_same kind (λ ns. may_act_at kind part ns k other) _ _ _ (states olds) (states news) answer (λ r made. joint_stay part k far joint away same (states olds) r made) done.ends

-- what a switch may not do it isn't ready for
pub may_not : {A : Type 0} (kind : Kind A) (l : ℕ) (part : PortPart) (k : ℕ) (nodes : List (Node A)) → may_act_at kind part nodes k l ≡ false → is_ready_at kind part nodes k l ≡ false
may_not kind l part k nodes none = search (arith, unturned)
