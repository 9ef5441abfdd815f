-- An event that is tried by its acts, as a part of a round.
use Rattle.{c104_event.specs.declared.{events.Event.Event, faults.EventFault.EventFault}, c104_node.specs.PlaceActs.{AloneDone, JointDone}}
use Rattle.c104_node.specs.{Places.{IsFullByTrace, Shown}, PortActs.Acts, Traces.seatless, declared.acts.ActOf.ActOf}
use Rattle.{c104_node.specs.declared.{crossings.Crossing.Crossing, ends.End.End}, c104_plan.specs.{Plans.Plan, Wiring.peer}}
use Rattle.{c104_plan.specs.declared.ports.Port.Port, c104_run.proofs.{ActAnswers.event_done, MeteredSteps.{part_done, told_meter}}}
use Rattle.c104_run.{proofs.{RoundRuns.Applied, StageSteps.{fulls_kept, stage_done}}, specs.{Ends.end_of, EventActs.crossing_acts}}
use Rattle.c104_run.specs.{EventActs.{crossing_event, event_acts, port_place}, EventRuns.Answers, EventsAtPlaces.{ActsDone, told_answer}}
use Rattle.c104_run.specs.{FarEnds.far_end, Meters.{Sees, meter_told, metered_apply, metered_of}, NetRecords.{is_done, ticket_after}}
use Rattle.c104_run.specs.{Network.{event_fault, wired_fault}, RoundParts.{PartEnds, done_answer}, Stages.{stage_apply, stage_of}}
use Rattle.{c104_switch.specs.{Actions.Reply, declared.actions.ReplyOf.ReplyOf}, c104_token.specs.Kinds.Kind, std.proofs.Common.{Bool, Err}}
use Rattle.std.proofs.Common.{IfOk, List, None, Ok, Option, Result, Some, [], ap, arith, inl, inr, length, map, nat_lt, refl, subst, sym}
use Rattle.std.proofs.{Common.{true, ℕ, ◌-◌, ◌<◌, ◌∙◌, ◌∷◌, ◌≡◌}, lemmas.Bool.Decides.nat_tests}

-- what can happen at a wired port: what crosses from there, of whatever kind
crossing_possible : (plan : Plan) (crossing : Crossing) (p : Port) → wired_fault plan p ≡ None → event_fault plan (crossing_event crossing p) ≡ None
crossing_possible plan crossing p wired = search arith

-- it asks that this crosses
crossing_known : {A : Type 0} (plan : Plan) (crossing : Crossing) (p : Port) → ◌≡◌ {A = Option (Acts A)} (event_acts plan (crossing_event crossing p)) (crossing_acts crossing p (peer plan p))
crossing_known plan crossing p = search arith

-- an answer tells whether its event was done
answer_tells : {S : Type 0} (apply : S → Event → Applied S) (s after : S) (e : Event) (answer : Result Reply EventFault) → Answers apply s e answer after → IfOk (done_answer answer) (λ done. is_done (apply s e).0 ≡ done)
answer_tells {S} apply s after e (Ok r) answers = elim answers [ inl due ↦ sym (ap (λ (x : Applied S). is_done x.0) due) | inr short ↦ absurd (cc short.0) ]
answer_tells {S} apply s after e (Err f) answers = tt

module _ {A M P : Type 0} (kind : Kind A) (keeps : Bool) (sees : Sees M A) (shown : P → Shown A) (limited : (p : P) → IsFullByTrace keeps (shown p)) (plan : Plan) (olds news : List P) (count counted : ℕ) (m n : M)
    (told : Result (ReplyOf A) EventFault) (counts : counted ≡ ticket_after count (is_done (told_answer kind told))) where
  -- what the part of an event comes to, of which a meter is told this
  abbrev pub IsTried : Event → Type 0
  IsTried e = PartEnds (metered_apply kind keeps sees) (metered_of plan (map shown olds) count m) (e ∷ []) (done_answer (told_answer kind told)) (metered_of plan (map shown news) counted n)

  acts_tried : (e : Event) → n ≡ meter_told sees m e told → event_fault plan e ≡ None → (acts : Acts A) → event_acts plan e ≡ Some acts → ActsDone kind keeps plan (seatless count) acts (map shown olds) told (map shown news) → IsTried e
  acts_tried e tells possible acts known done =
      part_done kind keeps sees plan (map shown olds) (map shown news) count counted m n (fulls_kept keeps shown limited olds) e (told_answer kind told)
      (event_done kind plan e acts known keeps (seatless count) possible (map shown olds) told (map shown news) done) counts
      (tells ∙ told_meter kind sees keeps plan e acts known (seatless count) (map shown olds) (map shown news) m told done)

  -- an act of one node
  pub alone_tried : (e : Event) → n ≡ meter_told sees m e told → event_fault plan e ≡ None → (k : ℕ) (a : ActOf A) → event_acts plan e ≡ Some (Acts.Alone k a) → AloneDone kind keeps k (k - length plan.switches) (seatless count) a (map shown olds) told (map shown news) → IsTried e
  alone_tried e tells possible k a known done = acts_tried e tells possible (Acts.Alone k a) known done

  pub alone_tells : (e : Event) → event_fault plan e ≡ None → (k : ℕ) (a : ActOf A) → event_acts plan e ≡ Some (Acts.Alone k a) → AloneDone kind keeps k (k - length plan.switches) (seatless count) a (map shown olds) told (map shown news) →
      IfOk (done_answer (told_answer kind told)) (λ done. is_done (metered_apply kind keeps sees (metered_of plan (map shown olds) count m) e).0 ≡ done)
  alone_tells e possible k a known done =
      answer_tells (stage_apply kind keeps) (stage_of plan (map shown olds) count) (stage_of plan (map shown news) counted) e (told_answer kind told)
      (stage_done kind keeps plan (map shown olds) (map shown news) count counted (fulls_kept keeps shown limited olds) e (told_answer kind told)
      (event_done kind plan e (Acts.Alone k a) known keeps (seatless count) possible (map shown olds) told (map shown news) done) counts)

  -- what crosses a wire
  module _ (p q : Port) (crossing : Crossing) (near far : End) (near_is : near ≡ end_of plan p) (far_is : far_end plan p ≡ Some far) (wired : peer plan p ≡ Some q) where
    abbrev IsEnded : ℕ → ℕ → Type 0
    IsEnded k j = JointDone kind keeps k j (record { near = p; far = q; crossing = crossing }) (seatless count) (map shown olds) told (map shown news)

    near_place : near.node ≡ port_place plan p
    near_place = ap (λ (end : End). end.node) near_is

    far_place : far.node ≡ port_place plan q
    far_place = search arith

    pub joint_tried : n ≡ meter_told sees m (crossing_event crossing p) told → wired_fault plan p ≡ None → IsEnded near.node far.node → IsTried (crossing_event crossing p)
    joint_tried tells possible done =
        acts_tried (crossing_event crossing p) tells (crossing_possible plan crossing p possible) (Acts.Joint p q crossing) (crossing_known plan crossing p ∙ ap (crossing_acts crossing p) wired)
        (subst (λ j. IsEnded (port_place plan p) j) far_place (subst (λ k. IsEnded k far.node) near_place done))

-- what can happen at a wired link: a turn of its input
pub turn_possible : (plan : Plan) (s l word : ℕ) → wired_fault plan (Port.Switch s l) ≡ None → event_fault plan (Event.Input s l word) ≡ None
turn_possible plan s l word = search arith

-- a claim at two links of a switch
pub claim_possible : (plan : Plan) (s i o : ℕ) → s < length plan.switches → i < 32 → o < 32 → event_fault plan (Event.Claim s i o) ≡ None
claim_possible plan s i o switch input output = search (arith, nat_tests)

-- an arrival at a terminal
pub drain_possible : (plan : Plan) (t : ℕ) → t < length plan.terminals → event_fault plan (Event.Drain t) ≡ None
drain_possible plan t inside = let one : nat_lt t (length plan.terminals) ≡ true = grind (arith, nat_tests) in rw one refl
