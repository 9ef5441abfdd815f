-- An event of a stage: what it answers, and what is kept of it.
use Rattle.{c104_event.specs.declared.{events.Event.Event, faults.EventFault.EventFault}, c104_node.specs.Places.{IsFullByTrace, Shown}}
use Rattle.c104_node.specs.{Places.{fulls, is_kept_full, room_fault, traces}, Traces.{kept_of, noted_all, seatless}}
use Rattle.{c104_plan.specs.Plans.Plan, c104_run.proofs.RoundRuns.{Applied, is_told, step_replies, undone_stays}}
use Rattle.c104_run.{proofs.UndoneEvents.undone_deeds, specs.{EventDeeds.{event_deeds, event_full}, EventRuns.Answers}}
use Rattle.c104_run.specs.{EventsAtPlaces.EventDone, NetRecords.{is_done, ticket_after}, Network.{AnswersWith, Network, WouldBeDone}}
use Rattle.c104_run.specs.{Network.{network_apply, network_step, outcome_if_possible, outcome_if_ready, outcome_within_limit}, Stages.Stage}
use Rattle.{c104_run.specs.Stages.{stage_apply, stage_full, stage_of, unless_full}, c104_switch.specs.Actions.{Reply, is_ready}}
use Rattle.{c104_switch.specs.declared.actions.ReplyOf.ReplyOf, c104_token.specs.Kinds.Kind, std.proofs.Common.{Bool, Err, IfOk, List}}
use Rattle.std.proofs.Common.{None, Ok, Option, Result, Some, [], ap, arith, false, if◌then◌else◌, inl, inr, is_some, map, refl, sym, true}
use Rattle.std.proofs.Common.{ℕ, ◌&&◌, ◌∙◌, ◌∷◌, ◌≡◌}

-- where each place is full where its trace is, that of all is told by their traces
pub fulls_kept : {A P : Type 0} (keeps : Bool) (shown : P → Shown A) → ((p : P) → IsFullByTrace keeps (shown p)) → (places : List P) → fulls (map shown places) ≡ map (is_kept_full keeps) (traces (map shown places))
fulls_kept keeps shown limited [] = refl
fulls_kept keeps shown limited (p ∷ places) = search (arith, fulls_kept keeps shown limited places)

-- an event that is done adds to no full trace
not_full : (full : Bool) (answer : Result Reply EventFault) → IfOk answer (λ r. is_ready r ≡ true → full ≡ false) → (full && is_done answer) ≡ false
not_full full answer free = search arith

-- an event that would be done is done
pub would : {A : Type 0} (kind : Kind A) (net : Network A) (e : Event) → WouldBeDone kind net e → is_done (network_apply kind net e).0 ≡ true
would {A} kind net e (possible, ready, within) = by_step (network_step kind net e) refl ready
  where
    by_step : (made : Option (Reply × Network A)) → network_step kind net e ≡ made → is_some made ≡ true → is_done (network_apply kind net e).0 ≡ true
    by_step None made ready = absurd (cc ready)
    by_step (Some r) made ready =
        let due : network_apply kind net e ≡ (Ok r.0, r.1) = ap (outcome_if_possible kind net e) possible ∙ ap (outcome_if_ready kind net e) made ∙ ap (λ f. outcome_within_limit kind net f r) within in
        ap (λ (d : Applied (Network A)). is_done d.0) due ∙ is_told r.0 (step_replies kind net e r made)

module _ {A : Type 0} where
  -- stages that show the same are the same
  pub same_stage : (s t : Stage A) → s.network ≡ t.network → s.bases ≡ t.bases → s.traces ≡ t.traces → s.count ≡ t.count → s ≡ t
  same_stage s t network bases traces count = search arith

module _ {A : Type 0} (kind : Kind A) (keeps : Bool) (s after : Stage A) (full : Bool) (e : Event) where
  -- what is kept of an event of this answer
  abbrev Keeps : Result Reply EventFault → Type 0
  Keeps answer =
      (after.bases ≡ s.bases)
      × (after.traces ≡ noted_all keeps s.traces (kept_of (event_deeds s.network.plan (seatless s.count) e) answer))
      × (after.count ≡ ticket_after s.count (is_done answer))

  -- what is due in the network is due in the stage
  due_stage : (answer : Result Reply EventFault) → Keeps answer → ◌≡◌ {A = Applied (Network A)} (answer, after.network) (unless_full (stage_full keeps s e) s.network (network_apply kind s.network e)) → ◌≡◌ {A = Applied (Stage A)} (answer, after) (stage_apply kind keeps s e)
  due_stage answer kept due = search (arith, same_stage)

  -- of an event that isn't done nothing is kept
  undone_same : (answer : Result Reply EventFault) → Keeps answer → is_done answer ≡ false → after.network ≡ s.network → after ≡ s
  undone_same answer kept undone network = search (arith, same_stage, undone_deeds)

  module _ (told : full ≡ stage_full keeps s e) where
    abbrev due : Applied (Network A)
    due = network_apply kind s.network e

    -- a full trace refuses an event that would be done, and no other
    is_open : (full && is_done due.0) ≡ false → unless_full (stage_full keeps s e) s.network due ≡ due
    is_open free = ap (λ b. unless_full b s.network due) (sym told) ∙ ap (λ b. if b then (Err EventFault.TraceFull, s.network) else due) free

    is_refused : full ≡ true → is_done due.0 ≡ true → unless_full (stage_full keeps s e) s.network due ≡ (Err EventFault.TraceFull, s.network)
    is_refused is done = ap (λ b. unless_full b s.network due) (sym told ∙ is) ∙ ap (λ b. if b then (Err EventFault.TraceFull, s.network) else due) done

    refused_stage : (f : Bool) → full ≡ f → (answer : Result Reply EventFault) → Keeps answer → answer ≡ Err (room_fault f) → WouldBeDone kind s.network e → after.network ≡ s.network → Answers (stage_apply kind keeps) s e answer after
    refused_stage f is answer kept refused wanted same = search (arith, due_stage, is_refused, would, is_open, undone_same)

    stage_answers : (answer : Result Reply EventFault) → Keeps answer → AnswersWith kind full s.network e answer after.network → IfOk answer (λ r. is_ready r ≡ true → full ≡ false) → Answers (stage_apply kind keeps) s e answer after
    stage_answers answer kept (inl is) free = inl (due_stage answer kept (is ∙ sym (is_open (ap (λ (d : Applied (Network A)). full && is_done d.0) (sym is) ∙ not_full full answer free))))
    stage_answers answer kept (inr refused) free = refused_stage full refl answer kept refused.0 refused.1 refused.2

    -- an event that isn't done leaves the stage as it was
    undone_stage : (answer : Result Reply EventFault) → Keeps answer → AnswersWith kind full s.network e answer after.network → is_done answer ≡ false → after ≡ s
    undone_stage answer kept answers undone = undone_same answer kept undone (undone_stays kind s.network e after.network full answer undone answers)

-- an event at places, as a step of the stage that they show
module _ {A : Type 0} (kind : Kind A) (keeps : Bool) (plan : Plan) (olds news : List (Shown A)) (count counted : ℕ) (limited : fulls olds ≡ map (is_kept_full keeps) (traces olds))
    (e : Event) (answer : Result Reply EventFault) (done : EventDone kind keeps plan (seatless count) e olds answer news) (told : counted ≡ ticket_after count (is_done answer)) where
  abbrev stage : List (Shown A) → ℕ → Stage A
  stage shown n = stage_of plan shown n

  full_told : event_full plan (fulls olds) e ≡ stage_full keeps (stage olds count) e
  full_told = ap (λ fs. event_full plan fs e) limited

  pub stage_done : Answers (stage_apply kind keeps) (stage olds count) e answer (stage news counted)
  stage_done = stage_answers kind keeps (stage olds count) (stage news counted) (event_full plan (fulls olds) e) e full_told answer (done.base, done.trace, told) done.answers done.free

  pub stage_undone : is_done answer ≡ false → stage news counted ≡ stage olds count
  stage_undone = undone_stage kind keeps (stage olds count) (stage news counted) (event_full plan (fulls olds) e) e full_told answer (done.base, done.trace, told) done.answers

module _ {A : Type 0} (kind : Kind A) where
  -- an event that isn't ready
  pub unready_stage : (keeps : Bool) (s : Stage A) (e : Event) → network_apply kind s.network e ≡ (Ok ReplyOf.NotReady, s.network) → Answers (stage_apply kind keeps) s e (Ok ReplyOf.NotReady) s
  unready_stage keeps s e unready = search (arith, stage_answers, undone_deeds)
