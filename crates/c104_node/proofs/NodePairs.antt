-- What crosses a wire between two nodes: it does where both are ready.
use Rattle.{c104_link.specs.Steps.◌>>=◌, c104_node.proofs.{JointEnds.{far_done, near_answers}, RecordedNodes.linked_ready}}
use Rattle.c104_node.specs.{Nodes.Node, PortActs.{IsAnswerOf, far_act, near_act}, Records.{Crossed, NodeRecord, crossed, pair_step}}
use Rattle.{c104_node.specs.{Records.recorded_step, declared.crossings.Joint.Joint}, c104_switch.specs.Actions.Reply}
use Rattle.{c104_switch.specs.declared.actions.ReplyOf.ReplyOf, c104_token.specs.{Kinds.plain_kind, declared.tokens.Token.Token}}
use Rattle.std.proofs.{Common.{Bool, None, Option, Some, ap, false, is_some, refl, sym, true, ◌∙◌, ◌≡◌}, lemmas.Bool.both_ways}

module _ (joint : Joint) (near far : NodeRecord) where
  abbrev with_far : Reply → Node Token → Reply × Node Token → Option Crossed
  with_far r n s = Some (crossed r n s.1)

  abbrev from_near : Reply × Node Token → Option Crossed
  from_near r = recorded_step far (far_act joint.far r.0) >>= with_far r.0 r.1

  abbrev near_step : Option (Reply × Node Token)
  near_step = recorded_step near (near_act joint.crossing joint.near)

  -- the first end answers what crosses
  pub pair_answers : (r : Reply × Node Token) → near_step ≡ Some r → IsAnswerOf joint.crossing r.0
  pair_answers r is = near_answers plain_kind joint.crossing joint.near near.state r (sym (linked_ready near (near_act joint.crossing joint.near) (ap is_some is)).1 ∙ is)

  -- and the other end that it came in
  pub pair_done : (told : Reply) (s : Reply × Node Token) → IsAnswerOf joint.crossing told → recorded_step far (far_act joint.far told) ≡ Some s → s.0 ≡ ReplyOf.Done
  pair_done told s answer is = far_done plain_kind joint.crossing told joint.far far.state s answer (sym (linked_ready far (far_act joint.far told) (ap is_some is)).1 ∙ is)

  -- where the first end isn't ready, nothing crosses
  pub pair_closed : is_some near_step ≡ false → is_some (pair_step joint near far) ≡ false
  pair_closed closed = by_near near_step closed
    where
      by_near : (made : Option (Reply × Node Token)) → is_some made ≡ false → is_some (made >>= from_near) ≡ false
      by_near None none = refl
      by_near (Some r) none = absurd (both_ways true none refl)

  -- where it is, something crosses exactly where the other end takes it
  pub pair_open : (b : Bool) → is_some near_step ≡ true → ((told : Reply) → IsAnswerOf joint.crossing told → b ≡ is_some (recorded_step far (far_act joint.far told))) → b ≡ is_some (pair_step joint near far)
  pair_open b ready takes = by_near near_step refl ready
    where
      by_far : (r : Reply) (n : Node Token) (made : Option (Reply × Node Token)) → b ≡ is_some made → b ≡ is_some (made >>= with_far r n)
      by_far r n None is = is
      by_far r n (Some s) is = is

      by_near : (made : Option (Reply × Node Token)) → near_step ≡ made → is_some made ≡ true → b ≡ is_some (made >>= from_near)
      by_near None is ready = absurd (both_ways false refl ready)
      by_near (Some r) is ready = by_far r.0 r.1 (recorded_step far (far_act joint.far r.0)) (takes r.0 (pair_answers r is))

  -- where something crosses, the other end is ready for what the first one answers
  pub pair_far : (told : Reply) (n : Node Token) → is_some (pair_step joint near far) ≡ true → near_step ≡ Some (told, n) → is_some (recorded_step far (far_act joint.far told)) ≡ true
  pair_far told n ready is = by_far (recorded_step far (far_act joint.far told)) (sym (ap (λ made. is_some (made >>= from_near)) is) ∙ ready)
    where
      by_far : (made : Option (Reply × Node Token)) → is_some (made >>= with_far told n) ≡ true → is_some made ≡ true
      by_far None ready = ready
      by_far (Some s) ready = refl
