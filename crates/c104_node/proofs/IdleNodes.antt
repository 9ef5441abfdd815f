-- A node at which nothing of a round can begin, by what is asked of it; and what acts of other nodes leave there.
use Rattle.{c104_crossbar.specs.Groups.has_bit, c104_event.specs.declared.faults.EventFault.EventFault}
use Rattle.{c104_link.{proofs.MadeSteps.from_place_made, specs.Steps.{step_at, ◌>>=◌}}, c104_node.proofs.WireEnds.get_set_other}
use Rattle.c104_node.specs.{Acts.{node_act, nodes_act}, Idle.IsIdleNode, Nodes.{Node, node_claim}, PlaceActs.{ActsEnd, AloneDone}}
use Rattle.c104_node.specs.{PlaceActs.JointDone, Places.{Shown, states}, PortActs.{far_act, joint_step, near_act}, Records.has_link}
use Rattle.c104_node.specs.{Terminals.{Terminal, terminal_credit_out, terminal_drain, terminal_leave}, declared.acts.ActOf.ActOf}
use Rattle.{c104_node.specs.declared.{crossings.Joint.Joint, node.NodeOf.NodeOf, stamps.Stamp.Stamp}, c104_switch.specs.Claims.IsNextLink}
use Rattle.c104_switch.specs.{Claims.switch_claim, Switch.{Switch as State, switch_credit_out, switch_leave}, Turns.switch_input}
use Rattle.{c104_switch.specs.declared.actions.ReplyOf.ReplyOf, c104_token.specs.Kinds.Kind, std.proofs.Common.{Bool, Err, List, None, Ok}}
use Rattle.std.proofs.Common.{Option, Result, Some, ap, arith, false, is_some, not, refl, slice_get, sym, true, ℕ, ◌&&◌, ◌<◌, ◌∙◌, ◌≡◌, ◌≢◌}

-- what a test says of its opposite
pub opposite : (b : Bool) → not b ≡ true → b ≡ false
opposite b is = search arith

module _ {A : Type 0} (kind : Kind A) where
  -- a switch of which no link that is asked is ready, and no input wants an output
  pub idle_switch : (s : State A) (wired : ℕ) → IsNextLink (λ l. is_some (switch_credit_out s l) && has_bit wired l) 0 None → IsNextLink (λ l. is_some (switch_leave s l) && has_bit wired l) 0 None →
      ((l word : ℕ) → l < 32 → has_bit wired l ≡ true → switch_input kind s l word ≡ None) → ((i o : ℕ) → i < 32 → switch_claim s i o ≡ None) → IsIdleNode kind (has_link wired) (NodeOf.Switch s)
  idle_switch s wired granting leaving turning wanting = grind arith

  -- a terminal that neither grants nor sends, and at which nothing arrives
  pub idle_terminal : (t : Terminal A) (wired : ℕ) → is_some (terminal_credit_out t) ≡ false → is_some (terminal_leave t) ≡ false → is_some (terminal_drain t) ≡ false → IsIdleNode kind (has_link wired) (NodeOf.Terminal t)
  idle_terminal t wired granting leaving draining = grind arith

  -- the same links, told in another way
  pub idle_by : (n : Node A) (wired others : ℕ → Bool) → ((l : ℕ) → wired l ≡ others l) → IsIdleNode kind wired n → IsIdleNode kind others n
  idle_by n wired others same idle = grind arith

  -- what no node there does is not ready there
  module _ (nodes : List (Node A)) (k : ℕ) where
    pub unready_there : (number : ℕ) (a : ActOf A) → ((n : Node A) → slice_get nodes k ≡ Some n → is_some (node_act kind number a n) ≡ false) → is_some (nodes_act kind nodes k number a) ≡ false
    unready_there number a none = search arith

    pub unclaimed_there : (i o : ℕ) → ((n : Node A) → slice_get nodes k ≡ Some n → node_claim i o n ≡ None) → step_at nodes k (node_claim i o) ≡ None
    unclaimed_there i o none = grind arith

  -- acts change no other node than those that do them
  pub act_frame : (nodes : List (Node A)) (k number : ℕ) (a : ActOf A) (r : ReplyOf A × List (Node A)) → nodes_act kind nodes k number a ≡ Some r → (j : ℕ) → j ≢ k → slice_get r.1 j ≡ slice_get nodes j
  act_frame nodes k number a r is j other = search (arith, from_place_made, get_set_other)

  joint_frame : (nodes : List (Node A)) (near far : ℕ) (joint : Joint) (r : ReplyOf A × List (Node A)) → joint_step kind near far joint.near joint.far joint.crossing nodes ≡ Some r → (j : ℕ) → j ≢ near → j ≢ far → slice_get r.1 j ≡ slice_get nodes j
  joint_frame nodes near far joint r is j from to = by_near (nodes_act kind nodes near 0 (near_act joint.crossing joint.near)) refl is
    where
      by_far : (v : ReplyOf A × List (Node A)) → slice_get v.1 j ≡ slice_get nodes j → (came : Option (ReplyOf A × List (Node A))) → nodes_act kind v.1 far 0 (far_act joint.far v.0) ≡ came →
          (came >>= (λ s. Some (v.0, s.1))) ≡ Some r → slice_get r.1 j ≡ slice_get nodes j
      by_far v first None came is = absurd (cc)
      by_far v first (Some w) came is =
          let both : ◌≡◌ {A = ReplyOf A × List (Node A)} (v.0, w.1) r = cc in
          ap (λ (z : ReplyOf A × List (Node A)). slice_get z.1 j) (sym both) ∙ act_frame v.1 far 0 (far_act joint.far v.0) w came j to ∙ first

      by_near : (gone : Option (ReplyOf A × List (Node A))) → nodes_act kind nodes near 0 (near_act joint.crossing joint.near) ≡ gone →
          (gone >>= (λ v. nodes_act kind v.1 far 0 (far_act joint.far v.0) >>= (λ s. Some (v.0, s.1)))) ≡ Some r → slice_get r.1 j ≡ slice_get nodes j
      by_near None gone is = absurd (cc)
      by_near (Some v) gone is = by_far v (act_frame nodes near 0 (near_act joint.crossing joint.near) v gone j from) (nodes_act kind v.1 far 0 (far_act joint.far v.0)) refl is

  -- what acts leave of all nodes they leave however they end
  pub ended_same : {X : Type 0} (of : List (Node A) → X) (limit : Option EventFault) (made : Option (ReplyOf A × List (Node A))) (full : Bool) (nodes after : List (Node A)) (answer : Result (ReplyOf A) EventFault) →
      ((r : ReplyOf A × List (Node A)) → made ≡ Some r → of r.1 ≡ of nodes) → ActsEnd limit made full nodes answer after → of after ≡ of nodes
  ended_same of limit None full nodes after (Ok told) frame ends = ap (λ (z : ReplyOf A × List (Node A)). of z.1) ends.0
  ended_same of limit (Some r) full nodes after (Ok told) frame ends = ap (λ (z : ReplyOf A × List (Node A)). of z.1) ends.0 ∙ frame r refl
  ended_same of limit made full nodes after (Err f) frame ends = ap of ends.2

  module _ (keeps : Bool) (stamp : Stamp) (olds news : List (Shown A)) (answer : Result (ReplyOf A) EventFault) (j : ℕ) where
    abbrev Stays : Type 0
    Stays = slice_get (states news) j ≡ slice_get (states olds) j

    pub alone_stays : (k number : ℕ) (a : ActOf A) → AloneDone kind keeps k number stamp a olds answer news → j ≢ k → Stays
    alone_stays k number a done other = ended_same (λ ns. slice_get ns j) _ _ _ (states olds) (states news) answer (λ r made. act_frame (states olds) k number a r made j other) done.ends

    pub joint_stays : (near far : ℕ) (joint : Joint) → JointDone kind keeps near far joint stamp olds answer news → j ≢ near → j ≢ far → Stays
    joint_stays near far joint done from to = ended_same (λ ns. slice_get ns j) _ _ _ (states olds) (states news) answer (λ r made. joint_frame (states olds) near far joint r made j from to) done.ends
