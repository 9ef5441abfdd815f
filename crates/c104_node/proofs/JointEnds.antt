-- What crosses a wire, among all nodes: where both ends are ready both act, and else nothing changes.
use Rattle.{c104_event.specs.declared.faults.EventFault.EventFault, c104_link.{proofs.MadeSteps.from_place_made, specs.Steps.◌>>=◌}}
use Rattle.c104_node.{proofs.{PlaceSteps.as_many, WireEnds.get_set_other}, specs.{ActLinks.{on_links, port_link}, Acts.node_act}}
use Rattle.c104_node.specs.{Acts.nodes_act, Nodes.Node, PlaceActs.{HasActedAt, JointDone}, Places.{Shown, bases, fulls, room_fault, states}}
use Rattle.c104_node.specs.{Places.traces, PortActs.{IsAnswerOf, far_act, joint_step, near_act}, Traces.{full_at, kept_entry}}
use Rattle.c104_node.specs.declared.{acts.{ActOf.ActOf, Entry.Entry}, crossings.{Crossing.Crossing, Joint.Joint}, stamps.Stamp.Stamp}
use Rattle.{c104_plan.specs.declared.ports.Port.Port, c104_switch.specs.{Actions.is_ready, declared.actions.ReplyOf.ReplyOf}}
use Rattle.{c104_token.specs.Kinds.Kind, std.proofs.Common.{Bool, Err, List, None, Ok, Option, Some, ap, arith, false, is_some, length}}
use Rattle.std.proofs.{Common.{map, refl, slice_get, slice_set, subst, sym, true, ℕ, ◌<◌, ◌||◌, ◌∙◌, ◌≡◌, ◌≢◌}, lemmas.Bool.cases_lt}
use Rattle.std.proofs.lemmas.Option.{slice_get_past}

-- what is done answers so
pub ready_answer : {A : Type 0} (crossing : Crossing) (r : ReplyOf A) → IsAnswerOf crossing r → is_ready r ≡ true
ready_answer crossing r is = grind arith

module _ {A : Type 0} (kind : Kind A) where
  -- the first end answers what crosses
  pub near_answers : (crossing : Crossing) (p : Port) (n : Node A) (r : ReplyOf A × Node A) → node_act kind 0 (near_act crossing p) n ≡ Some r → IsAnswerOf crossing r.0
  near_answers crossing p n r is = grind arith

  -- and the other end that it came in
  pub far_done : (crossing : Crossing) (a : ReplyOf A) (q : Port) (m : Node A) (r : ReplyOf A × Node A) → IsAnswerOf crossing a → node_act kind 0 (far_act q a) m ≡ Some r → r.0 ≡ ReplyOf.Done
  far_done crossing a q m r answer is = grind arith

  -- what goes out at a port goes over its link
  pub near_linked : (links : ℕ → Bool) (crossing : Crossing) (p : Port) → links (port_link p) ≡ true → on_links links (near_act {A = A} crossing p) ≡ true
  near_linked links crossing p linked = grind arith

  -- a node that can act is there
  acts_inside : (nodes : List (Node A)) (k : ℕ) (a : ActOf A) → is_some (nodes_act kind nodes k 0 a) ≡ true → k < length nodes
  acts_inside nodes k a ready = search (arith, slice_get_past, cases_lt)

  pub place_inside : {P : Type 0} (shown : P → Shown A) (xs : List P) (k : ℕ) (a : ActOf A) → is_some (nodes_act kind (states (map shown xs)) k 0 a) ≡ true → k < length xs
  place_inside shown xs k a ready = search (arith, acts_inside, as_many)

module _ {A : Type 0} (kind : Kind A) (p q : Port) (crossing : Crossing) (near far : ℕ) (nodes : List (Node A)) where
  abbrev with_reply : ReplyOf A → ReplyOf A × List (Node A) → Option (ReplyOf A × List (Node A))
  with_reply told s = Some (told, s.1)

  abbrev from_near : ReplyOf A × List (Node A) → Option (ReplyOf A × List (Node A))
  from_near r = nodes_act kind r.1 far 0 (far_act q r.0) >>= with_reply r.0

  -- the near end acted so
  abbrev HasGone : ReplyOf A × List (Node A) → Type 0
  HasGone r = nodes_act kind nodes near 0 (near_act crossing p) ≡ Some r

  -- it answers what crosses
  pub gone_answers : (r : ReplyOf A × List (Node A)) → HasGone r → IsAnswerOf crossing r.0
  gone_answers r gone = search (arith, from_place_made, near_answers)

  -- the far end answers that it came in
  pub came_answers : (r s : ReplyOf A × List (Node A)) → HasGone r → nodes_act kind r.1 far 0 (far_act q r.0) ≡ Some s → s.0 ≡ ReplyOf.Done
  came_answers r s gone came = from_place_made r.1 far (node_act kind 0 (far_act q r.0)) s came (λ m v here made set.
      ap (λ (z : ReplyOf A × List (Node A)). z.0) (sym set) ∙ far_done kind crossing r.0 q m v (gone_answers r gone) made)

  module _ (apart : near ≢ far) where
    -- whether the far end can act is told by the node there alone
    some_at : (a : ActOf A) (ns ms : List (Node A)) → slice_get ns far ≡ slice_get ms far → is_some (nodes_act kind ns far 0 a) ≡ is_some (nodes_act kind ms far 0 a)
    some_at a ns ms same = grind arith

    -- and what goes out at the near end changes nothing there
    far_kept : (a : ActOf A) (r : ReplyOf A × List (Node A)) → HasGone r → is_some (nodes_act kind r.1 far 0 a) ≡ is_some (nodes_act kind nodes far 0 a)
    far_kept a r gone = from_place_made nodes near (node_act kind 0 (near_act crossing p)) r gone (λ n v here made set.
        subst (λ (z : ReplyOf A × List (Node A)). is_some (nodes_act kind z.1 far 0 a) ≡ is_some (nodes_act kind nodes far 0 a)) set
        (some_at a (slice_set nodes near v.1) nodes (get_set_other nodes near far v.1 apart)))

    -- whether the far end is ready, whatever crosses
    abbrev IsFarReady : Bool → Type 0
    IsFarReady b = (a : ReplyOf A) → IsAnswerOf crossing a → b ≡ is_some (nodes_act kind nodes far 0 (far_act q a))

    -- where it is, it can act for what went out
    pub far_opens : (r : ReplyOf A × List (Node A)) → HasGone r → IsFarReady true → true ≡ is_some (nodes_act kind r.1 far 0 (far_act q r.0))
    far_opens r gone opened = opened r.0 (gone_answers r gone) ∙ sym (far_kept (far_act q r.0) r gone)

    -- where both ends are ready, something crosses
    pub joint_ready : true ≡ is_some (nodes_act kind nodes near 0 (near_act crossing p)) → IsFarReady true → is_some (joint_step kind near far p q crossing nodes) ≡ true
    joint_ready ready opened = by_near (nodes_act kind nodes near 0 (near_act crossing p)) refl ready
      where
        by_far : (told : ReplyOf A) (made : Option (ReplyOf A × List (Node A))) → true ≡ is_some made → is_some (made >>= with_reply told) ≡ true
        by_far told None ready = sym ready
        by_far told (Some s) ready = refl

        by_near : (made : Option (ReplyOf A × List (Node A))) → nodes_act kind nodes near 0 (near_act crossing p) ≡ made → true ≡ is_some made → is_some (made >>= from_near) ≡ true
        by_near None gone ready = sym ready
        by_near (Some r) gone ready = by_far r.0 (nodes_act kind r.1 far 0 (far_act q r.0)) (far_opens r gone opened)

    -- where the far end isn't ready, nothing does
    pub joint_closed : IsFarReady false → joint_step kind near far p q crossing nodes ≡ None
    joint_closed closed = by_near (nodes_act kind nodes near 0 (near_act crossing p)) refl
      where
        by_far : (told : ReplyOf A) (made : Option (ReplyOf A × List (Node A))) → false ≡ is_some made → (made >>= with_reply told) ≡ None
        by_far told None is = refl
        by_far told (Some s) is = absurd (cc)

        by_near : (made : Option (ReplyOf A × List (Node A))) → nodes_act kind nodes near 0 (near_act crossing p) ≡ made → (made >>= from_near) ≡ None
        by_near None gone = refl
        by_near (Some r) gone = by_far r.0 (nodes_act kind r.1 far 0 (far_act q r.0)) (closed r.0 (gone_answers r gone) ∙ sym (far_kept (far_act q r.0) r gone))

-- what crosses a wire, as it ends at all places
module _ {A : Type 0} (kind : Kind A) (keeps : Bool) (near far : ℕ) (joint : Joint) (stamp : Stamp) (olds : List (Shown A)) where
  abbrev made : Option (ReplyOf A × List (Node A))
  made = joint_step kind near far joint.near joint.far joint.crossing (states olds)

  -- where one end isn't ready
  pub none_crosses : made ≡ None → JointDone kind keeps near far joint stamp olds (Ok ReplyOf.NotReady) olds
  none_crosses none = search arith

  -- where both are, and it is refused
  pub crossing_refused : (f : EventFault) (news : List (Shown A)) → f ≡ room_fault (full_at (fulls olds) near || full_at (fulls olds) far) → is_some made ≡ true → news ≡ olds → JointDone kind keeps near far joint stamp olds (Err f) news
  crossing_refused f news is ready same = record { ends = (is, ready, ap states same); base = ap bases same; trace = ap traces same }

-- what crosses goes out at one end, and then comes in at the other
module _ {A : Type 0} (kind : Kind A) (keeps : Bool) (near far : ℕ) (joint : Joint) (stamp : Stamp) (olds mids : List (Shown A)) (told : ReplyOf A) where
  -- the near end has acted
  abbrev pub HasLeft : Type 0
  HasLeft = HasActedAt kind keeps near 0 stamp (near_act joint.crossing joint.near) olds told mids

  abbrev going : Entry
  going = kept_entry kind stamp (near_act joint.crossing joint.near) told

  abbrev coming : Entry
  coming = kept_entry kind stamp (far_act joint.far told) ReplyOf.Done

  module _ (left : HasLeft) where
    pub left_answers : IsAnswerOf joint.crossing told
    left_answers = gone_answers kind joint.near joint.far joint.crossing near far (states olds) (told, states mids) left.acted

    -- where the far end was ready before, it is then
    pub come_ready : near ≢ far → ((a : ReplyOf A) → IsAnswerOf joint.crossing a → true ≡ is_some (nodes_act kind (states olds) far 0 (far_act joint.far a))) → is_some (nodes_act kind (states mids) far 0 (far_act joint.far told)) ≡ true
    come_ready apart comes = sym (far_opens kind joint.near joint.far joint.crossing near far (states olds) apart (told, states mids) left.acted comes)

    -- and where that has acted too, something crossed
    pub has_crossed : (last : ReplyOf A) (news : List (Shown A)) → HasActedAt kind keeps far 0 stamp (far_act joint.far told) mids last news → (full_at (fulls olds) near || full_at (fulls olds) far) ≡ false → JointDone kind keeps near far joint stamp olds (Ok told) news
    has_crossed last news came free = search (arith, ready_answer, came_answers)
