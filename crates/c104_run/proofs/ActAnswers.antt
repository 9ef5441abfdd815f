-- The acts of an event over any kind of token, as they are kept and answered: with plain tokens.
use Rattle.{c104_event.specs.declared.{events.Event.Event, faults.EventFault.EventFault}, c104_node.specs.Acts.{plain_reply, reply_outcome}}
use Rattle.c104_node.specs.{Nodes.Node, PlaceActs.ActsEnd, Places.{Shown, fulls, room_fault}, PortActs.{Acts, acts_limit, far_act}}
use Rattle.c104_node.specs.{PortActs.near_act, Traces.{kept_of, part, plain_act}, declared.crossings.Crossing.Crossing}
use Rattle.{c104_node.specs.declared.stamps.Stamp.Stamp, c104_plan.specs.{Plans.Plan, declared.ports.Port.Port}}
use Rattle.c104_run.specs.{EventActs.{acts_step, crossing_acts, event_acts}, EventDeeds.{acts_deeds, acts_full, event_deeds, event_full}}
use Rattle.c104_run.specs.{EventsAtPlaces.{ActsDone, EventDone, acts_kept, told_answer}, Network.{AnswersWith, Network, event_fault}}
use Rattle.c104_run.specs.Network.{event_limit, network_apply, network_of, network_step, outcome_if_possible, outcome_if_ready, told_step}
use Rattle.{c104_switch.specs.{Actions.{Reply, is_ready}, declared.actions.ReplyOf.ReplyOf}, c104_token.specs.Kinds.Kind}
use Rattle.{c104_token.specs.declared.tokens.Token.Token as PlainToken, std.proofs.Common.{Bool, Err, IfOk, List, None, Ok, Option, Result}}
use Rattle.std.proofs.Common.{Some, [], ap, arith, false, inl, is_some, option_map, refl, sym, true, unwrap_or, ◌∙◌, ◌≡◌}

module _ {A : Type 0} (kind : Kind A) where
  -- acts with plain tokens
  abbrev pub plain_acts : Acts A → Acts PlainToken
  plain_acts (Acts.Alone k a) = Acts.Alone k (plain_act kind a)
  plain_acts (Acts.Joint p q crossing) = Acts.Joint p q crossing

  -- those of an event have none but these
  crossing_plain : (crossing : Crossing) (p : Port) (o : Option Port) → crossing_acts crossing p o ≡ option_map plain_acts (crossing_acts crossing p o)
  crossing_plain crossing p o = search arith

  pub acts_plain : (plan : Plan) (e : Event) → event_acts plan e ≡ option_map plain_acts (event_acts plan e)
  acts_plain plan e = search (arith, crossing_plain)

  near_plain : (crossing : Crossing) (p : Port) → near_act crossing p ≡ plain_act kind (near_act crossing p)
  near_plain crossing p = search arith

  far_plain : (q : Port) (r : ReplyOf A) → far_act q (plain_reply kind r) ≡ plain_act kind (far_act q r)
  far_plain q r = search arith

  ready_plain : (r : ReplyOf A) → is_ready (plain_reply kind r) ≡ is_ready r
  ready_plain r = search arith

  -- what is kept of acts
  deeds_plain : (plan : Plan) (stamp : Stamp) (acts : Acts A) (r : ReplyOf A) → acts_deeds plan stamp (plain_acts acts) (plain_reply kind r) ≡ acts_kept kind plan stamp acts r
  deeds_plain plan stamp acts r = search (arith, ready_plain, near_plain, far_plain)

  full_plain : (plan : Plan) (fulls : List Bool) (acts : Acts A) → acts_full plan fulls (plain_acts acts) ≡ acts_full plan fulls acts
  full_plain plan fulls acts = search arith

  module _ (plan : Plan) (e : Event) (acts : Acts A) (known : event_acts plan e ≡ Some acts) where
    plain_known : event_acts plan e ≡ Some (plain_acts acts)
    plain_known = acts_plain plan e ∙ ap (option_map plain_acts) known

    event_kept : (stamp : Stamp) (r : ReplyOf A) → event_deeds plan stamp e (plain_reply kind r) ≡ acts_kept kind plan stamp acts r
    event_kept stamp r = ap (part [] (λ made. acts_deeds plan stamp made (plain_reply kind r))) plain_known ∙ deeds_plain plan stamp acts r

    -- the entries of what was answered
    answer_kept : (stamp : Stamp) (told : Result (ReplyOf A) EventFault) → kept_of (acts_kept kind plan stamp acts) told ≡ kept_of (event_deeds plan stamp e) (told_answer kind told)
    answer_kept stamp told = search (arith, event_kept)

    full_known : (fulls : List Bool) → event_full plan fulls e ≡ acts_full plan fulls acts
    full_known fulls = ap (part false (λ (made : Acts PlainToken). acts_full plan fulls made)) plain_known ∙ full_plain plan fulls acts

    -- what acts answer and leave is what the event does
    module _ (possible : event_fault plan e ≡ None) (nodes after : List (Node A)) (fulls : List Bool) where
      abbrev net : Network A
      net = network_of plan nodes

      abbrev made : Option (ReplyOf A × List (Node A))
      made = acts_step kind plan nodes acts

      abbrev told_outcome : ReplyOf A × List (Node A) → Result Reply EventFault × Network A
      told_outcome r = (Ok (plain_reply kind r.0), network_of plan r.1)

      limit_known : event_limit net e ≡ acts_limit nodes acts
      limit_known = rw known refl

      step_known : network_step kind net e ≡ told_step kind net made
      step_known = rw known refl

      apply_known : network_apply kind net e ≡ outcome_if_ready kind net e (told_step kind net made)
      apply_known = ap (outcome_if_possible kind net e) possible ∙ ap (outcome_if_ready kind net e) step_known

      told_made : (m : Option (ReplyOf A × List (Node A))) → is_some (told_step kind net m) ≡ is_some m
      told_made m = search arith

      -- what is due where no limit is passed
      due_told : (m : Option (ReplyOf A × List (Node A))) → (is_some m ≡ true → event_limit net e ≡ None) → outcome_if_ready kind net e (told_step kind net m) ≡ told_outcome (reply_outcome m nodes)
      due_told m within = search arith

      -- what a limit refuses
      limit_told : (f : EventFault) (m : Option (ReplyOf A × List (Node A))) → is_some m ≡ true → event_limit net e ≡ Some f → outcome_if_ready kind net e (told_step kind net m) ≡ (Err f, net)
      limit_told f m ready is = search arith

      refused_told : (f : EventFault) (limit : Option EventFault) → event_limit net e ≡ limit → f ≡ unwrap_or limit (room_fault (acts_full plan fulls acts)) → is_some made ≡ true → after ≡ nodes → AnswersWith kind (event_full plan fulls e) net e (Err f) (network_of plan after)
      refused_told f limit within is ready same = search (arith, full_known, step_known, told_made, apply_known, limit_told)

      acts_answer : (told : Result (ReplyOf A) EventFault) → ActsEnd (acts_limit nodes acts) made (acts_full plan fulls acts) nodes told after → AnswersWith kind (event_full plan fulls e) net e (told_answer kind told) (network_of plan after)
      acts_answer (Ok r) ends = inl (ap told_outcome ends.0 ∙ sym (apply_known ∙ due_told made (λ ready. limit_known ∙ (ends.1 ready).0)))
      acts_answer (Err f) ends = refused_told f (acts_limit nodes acts) limit_known ends.0 ends.1 ends.2

      done_made : (m : Option (ReplyOf A × List (Node A))) (r : ReplyOf A) → ◌≡◌ {A = ReplyOf A × List (Node A)} (r, after) (reply_outcome m nodes) → is_ready r ≡ true → is_some m ≡ true
      done_made m r is ready = search arith

      acts_free : (told : Result (ReplyOf A) EventFault) → ActsEnd (acts_limit nodes acts) made (acts_full plan fulls acts) nodes told after → IfOk (told_answer kind told) (λ r. is_ready r ≡ true → event_full plan fulls e ≡ false)
      acts_free told ends = search (arith, full_known, done_made, ready_plain)

    -- an event that can happen, by its acts
    pub event_done : (keeps : Bool) (stamp : Stamp) → event_fault plan e ≡ None → (olds : List (Shown A)) (told : Result (ReplyOf A) EventFault) (news : List (Shown A)) → ActsDone kind keeps plan stamp acts olds told news →
        EventDone kind keeps plan stamp e olds (told_answer kind told) news
    event_done keeps stamp possible olds told news done = search (arith, acts_answer, acts_free, answer_kept)
