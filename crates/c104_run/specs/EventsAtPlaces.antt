-- What the acts of an event, and the event, leave at all places of a network.
use Rattle.{c104_event.specs.declared.{events.Event.Event, faults.EventFault.EventFault}, c104_node.specs.Acts.plain_reply}
use Rattle.c104_node.specs.{PlaceActs.AreDone, Places.{Shown, bases, fulls, states, traces}, PortActs.{Acts, acts_limit}, Traces.Deed}
use Rattle.c104_node.specs.{Traces.{joint_deeds, kept_of, lone_deed, noted_all, plain_act}, declared.stamps.Stamp.Stamp}
use Rattle.{c104_plan.specs.Plans.Plan, c104_run.specs.{EventActs.{acts_step, port_place}, EventDeeds.{acts_full, event_deeds, event_full}}}
use Rattle.{c104_run.specs.Network.{AnswersWith, network_of}, c104_switch.specs.Actions.{Reply, is_ready}}
use Rattle.{c104_switch.specs.declared.actions.ReplyOf.ReplyOf, c104_token.specs.Kinds.Kind}
use Rattle.std.specs.Prelude.{Bool, Err, IfOk, List, Ok, Result, false, true, ◌≡◌}

-- the entries of some acts that were answered so
abbrev pub acts_kept : {A : Type 0} → Kind A → Plan → Stamp → Acts A → ReplyOf A → List Deed
acts_kept kind plan stamp (Acts.Alone k a) r = lone_deed stamp k (plain_act kind a) (plain_reply kind r)
acts_kept kind plan stamp (Acts.Joint p q crossing) r =
    joint_deeds kind stamp (port_place plan p) (port_place plan q) p q crossing r

-- an answer as it is told
abbrev pub told_answer : {A : Type 0} → Kind A → Result (ReplyOf A) EventFault → Result Reply EventFault
told_answer kind (Ok r) = Ok (plain_reply kind r)
told_answer kind (Err f) = Err f

module _ {A : Type 0} (kind : Kind A) (keeps : Bool) (plan : Plan) (stamp : Stamp) where
  -- all places after the acts of an event with this stamp
  abbrev pub ActsDone : Acts A → List (Shown A) → Result (ReplyOf A) EventFault → List (Shown A) → Type 0
  ActsDone acts olds answer news =
      AreDone keeps (acts_limit (states olds) acts) (acts_step kind plan (states olds) acts)
      (acts_full plan (fulls olds) acts) (acts_kept kind plan stamp acts) olds answer news

  -- all places after an event with this stamp: it is answered as is due, its entries are kept, and it adds to no trace
  -- that is full
  pub record EventDone (e : Event) (olds : List (Shown A)) (answer : Result Reply EventFault) (news : List (Shown A))
      : Type 0 where
    pub answers : AnswersWith kind (event_full plan (fulls olds) e) (network_of plan (states olds)) e
        answer (network_of plan (states news))
    pub free : IfOk answer (λ r. is_ready r ≡ true → event_full plan (fulls olds) e ≡ false)
    pub base : bases news ≡ bases olds
    pub trace : traces news ≡ noted_all keeps (traces olds) (kept_of (event_deeds plan stamp e) answer)
