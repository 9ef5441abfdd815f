-- What an act changes of what its place shows, and what acts of one node, or of two, leave at all places.
--     HasActed kind keeps number stamp act old reply new      one place, after an act that was answered so
--     HasActedAt ..   all places, after an act of one that was ready
--     AreDone ..      all places, after acts that were answered so; AloneDone and JointDone say it of one act and of two
use Rattle.{c104_event.specs.declared.faults.EventFault.EventFault, c104_node.specs.Acts.{node_act, nodes_act, plain_reply, reply_outcome}}
use Rattle.c104_node.specs.{Acts.wants_memory, Nodes.Node, Places.{Shown, bases, fulls, room_fault, states, traces}, PortActs.act_limit}
use Rattle.c104_node.specs.{PortActs.joint_step, Traces.{Deed, full_at, joint_deeds, kept_entry, kept_of, lone_deed, noted, noted_all}}
use Rattle.c104_node.specs.{Traces.{noted_at, plain_act}, declared.{acts.ActOf.ActOf, crossings.Joint.Joint, stamps.Stamp.Stamp}}
use Rattle.{c104_switch.specs.{Actions.is_ready, declared.actions.ReplyOf.ReplyOf}, c104_token.specs.Kinds.Kind}
use Rattle.std.specs.Prelude.{Bool, Err, List, None, Ok, Option, Result, Some, false, if◌then◌else◌, is_some, slice_get, true, unwrap_or, ℕ}
use Rattle.std.specs.Prelude.{◌||◌, ◌≡◌}

-- how acts end: they are answered as is due, and no limit and no full trace was in the way where they are ready; or they
-- are ready and refused, by a limit, a full trace or where memory is short, and nothing changed
abbrev pub ActsEnd : {A : Type 0} → Option EventFault → Option (ReplyOf A × List (Node A)) → Bool → List (Node A)
    → Result (ReplyOf A) EventFault → List (Node A) → Type 0
ActsEnd {A} limit made full nodes (Ok reply) after =
    (◌≡◌ {A = ReplyOf A × List (Node A)} (reply, after) (reply_outcome made nodes))
    × (is_some made ≡ true → (limit ≡ None) × (full ≡ false))
ActsEnd limit made full nodes (Err f) after =
    (f ≡ unwrap_or limit (room_fault full)) × (is_some made ≡ true) × (after ≡ nodes)

-- all places after acts, by the limit that would refuse them, what they answer and leave where they are ready, whether a
-- trace is full that they would add to, and the entries of an answer
pub record AreDone {A : Type 0} (keeps : Bool) (limit : Option EventFault) (made : Option (ReplyOf A × List (Node A)))
    (full : Bool) (deeds : ReplyOf A → List Deed) (olds : List (Shown A)) (answer : Result (ReplyOf A) EventFault)
    (news : List (Shown A)) : Type 0 where
  pub ends : ActsEnd limit made full (states olds) answer (states news)
  pub base : bases news ≡ bases olds
  pub trace : traces news ≡ noted_all keeps (traces olds) (kept_of deeds answer)

module _ {A : Type 0} (kind : Kind A) (keeps : Bool) where
  -- a place after an act in the event of this stamp that was answered so: an entry is kept of it where it was done
  pub record HasActed (number : ℕ) (stamp : Stamp) (a : ActOf A) (old : Shown A) (reply : ReplyOf A) (new : Shown A)
      : Type 0 where
    pub acted : ◌≡◌ {A = ReplyOf A × Node A} (reply, new.state) (reply_outcome (node_act kind number a old.state) old.state)
    pub base : new.base ≡ old.base
    pub trace : new.trace ≡ (if is_ready reply then noted keeps old.trace (kept_entry kind stamp a reply) else old.trace)

  -- how an act of a place ends: it is answered as is due; or it is ready, and memory has run out, which few acts want, and
  -- nothing changed
  abbrev pub ActEnds : {E : Type 0} → ℕ → Stamp → ActOf A → Shown A → Result (ReplyOf A) E → Shown A → Type 0
  ActEnds number stamp a old (Ok reply) new = HasActed number stamp a old reply new
  ActEnds number stamp a old (Err e) new =
      (is_some (node_act kind number a old.state) ≡ true) × (new ≡ old) × (wants_memory a ≡ true)

  -- all places after an act of the node at one that was ready
  pub record HasActedAt (place number : ℕ) (stamp : Stamp) (a : ActOf A) (olds : List (Shown A)) (reply : ReplyOf A)
      (news : List (Shown A)) : Type 0 where
    pub acted : nodes_act kind (states olds) place number a ≡ Some (reply, states news)
    pub base : bases news ≡ bases olds
    pub trace : traces news ≡ noted_at keeps (traces olds) place (kept_entry kind stamp a reply)

  -- all places after an act of the node at one
  abbrev pub AloneDone : ℕ → ℕ → Stamp → ActOf A → List (Shown A) → Result (ReplyOf A) EventFault → List (Shown A)
      → Type 0
  AloneDone place number stamp a olds answer news =
      AreDone keeps (act_limit (slice_get (states olds) place) a) (nodes_act kind (states olds) place number a)
      (full_at (fulls olds) place) (λ told. lone_deed stamp place (plain_act kind a) (plain_reply kind told)) olds answer news

  -- all places after what crosses a wire between the nodes at two
  abbrev pub JointDone : ℕ → ℕ → Joint → Stamp → List (Shown A) → Result (ReplyOf A) EventFault → List (Shown A) → Type 0
  JointDone near far joint stamp olds answer news =
      AreDone keeps None (joint_step kind near far joint.near joint.far joint.crossing (states olds))
      (full_at (fulls olds) near || full_at (fulls olds) far)
      (joint_deeds kind stamp near far joint.near joint.far joint.crossing) olds answer news
