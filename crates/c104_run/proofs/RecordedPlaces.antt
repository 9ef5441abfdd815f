-- What the answers of a network whose nodes are seen with their records cite: whatever a place keeps when it runs, an
-- event or rounds over such places are those of the network.
use Rattle.{c104_event.specs.declared.{events.Event.Event, faults.EventFault.EventFault}, c104_node.specs.MappedNodes.map_node}
use Rattle.c104_node.specs.{Places.{IsFullByTrace, Shown, fulls, is_kept_full, states, traces}, Traces.{is_trace_full, kept_of, noted_all}}
use Rattle.{c104_node.specs.Traces.seatless, c104_plan.specs.Plans.{IsPlan, Plan}, c104_run.proofs.FirstRecords.map_twice}
use Rattle.c104_run.proofs.RecordedNets.{answers_plain, event_answers, event_on, events_end, events_on, places_stage, starts_same}
use Rattle.c104_run.{proofs.{RecordedNets.states_plain, StageSteps.{fulls_kept, same_stage, stage_done}}, specs.Engines.EngineView}
use Rattle.c104_run.specs.{EventDeeds.{event_deeds, event_full}, EventRuns.{Answers, EventsEnd}, EventsAtPlaces.EventDone}
use Rattle.c104_run.specs.{NetRecords.{RecordsEvent, is_done, ticket_after}, Network.{AnswersWith, network_of}, RecordedNets.IsRecordedNet}
use Rattle.c104_run.specs.{RecordedNets.{KeepsRecord, Reading, places_record, read_trace}, RecordedRuns.{AnswersRecord, record_apply}}
use Rattle.{c104_run.specs.Stages.{Stage, stage_apply, stage_of}, c104_switch.specs.Actions.{Reply, is_ready}}
use Rattle.{c104_token.specs.Kinds.plain_kind, std.proofs.Common.{Bool, IfOk, List, Result, ap, arith, false, map, subst, sym, true, ℕ}}
use Rattle.std.proofs.Common.{◌∙◌, ◌≡◌}

-- how a network goes on by an event, whose plan stays
pub record GoesOn {A P : Type 0} (v : Reading A P) (plan planned : Plan) (old new : EngineView P) (e : Event) (answer : Result Reply EventFault) : Type 0 where
  pub kept : IsRecordedNet v planned new.places new.count
  pub records : RecordsEvent (places_record v plan old.places old.count) e answer (places_record v planned new.places new.count)
  pub answers : AnswersRecord (places_record v plan old.places old.count) e answer (places_record v planned new.places new.count)

-- how it goes on by events in turn
pub record RunsOn {A P : Type 0} (v : Reading A P) (plan planned : Plan) (old new : EngineView P) (events : List Event) (result : Result (Unit {0}) EventFault) : Type 0 where
  pub kept : IsRecordedNet v planned new.places new.count
  pub ends : EventsEnd record_apply (places_record v plan old.places old.count) events result (places_record v planned new.places new.count)

module _ {A P : Type 0} (v : Reading A P) (keeps : Bool) (is : KeepsRecord v keeps) (limited : (p : P) → IsFullByTrace keeps (v.shown p)) where
  traces_are : (places : List P) → traces (map v.shown places) ≡ map (read_trace v) places
  traces_are places = map_twice (λ (s : Shown A). s.trace) v.shown places

  fulls_are : (places : List P) → fulls (map v.shown places) ≡ map is_trace_full (map (read_trace v) places)
  fulls_are places =
      fulls_kept keeps v.shown limited places ∙ ap (λ b. map (is_kept_full b) (traces (map v.shown places))) is.keeping
      ∙ ap (map is_trace_full) (traces_are places)

  pub stage_is : (plan : Plan) (places : List P) (count : ℕ) → stage_of plan (map v.shown places) count ≡ places_stage v plan places count
  stage_is plan places count = search (arith, same_stage, map_twice)

  -- what is so of the stages that places show is so of those of the network
  pub stages_are : (plan : Plan) (old new : List P) (count counted : ℕ) (Ends : Bool → Stage A → Stage A → Type 0) → Ends keeps (stage_of plan (map v.shown old) count) (stage_of plan (map v.shown new) counted) →
      Ends true (places_stage v plan old count) (places_stage v plan new counted)
  stages_are plan old new count counted Ends ends =
      subst (λ s. Ends true (places_stage v plan old count) s) (stage_is plan new counted)
      (subst (λ s. Ends true s (stage_of plan (map v.shown new) counted)) (stage_is plan old count)
      (subst (λ b. Ends b (stage_of plan (map v.shown old) count) (stage_of plan (map v.shown new) counted)) is.keeping ends))

  -- of an engine before and after, the second of which has the plan of the first
  module _ (before after : EngineView P) (is_plan : IsPlan before.plan) (kept : IsRecordedNet v before.plan before.places before.count) where
    abbrev plan : Plan
    plan = before.plan

    abbrev old : List P
    old = before.places

    abbrev new : List P
    new = after.places

    abbrev count : ℕ
    count = before.count

    abbrev counted : ℕ
    counted = after.count

    module _ (e : Event) (answer : Result Reply EventFault) (done : EventDone v.kind keeps plan (seatless count) e (map v.shown old) answer (map v.shown new)) (told : counted ≡ ticket_after count (is_done answer)) where
      answered : AnswersWith plain_kind (event_full plan (map is_trace_full (map (read_trace v) old)) e) (network_of plan (map v.plain old)) e answer (network_of plan (map v.plain new))
      answered =
          subst (λ fs. AnswersWith plain_kind (event_full plan fs e) (network_of plan (map v.plain old)) e answer (network_of plan (map v.plain new))) (fulls_are old)
          (subst (λ ns. AnswersWith plain_kind (event_full plan (fulls (map v.shown old)) e) (network_of plan ns) e answer (network_of plan (map v.plain new))) (states_plain v is.reads old)
          (subst (λ ns. AnswersWith plain_kind (event_full plan (fulls (map v.shown old)) e) (network_of plan (map (map_node v.kind.plain) (states (map v.shown old)))) e answer (network_of plan ns)) (states_plain v is.reads new)
          (answers_plain v.kind is.reads.tokens (network_of plan (states (map v.shown old))) (network_of plan (states (map v.shown new))) e (event_full plan (fulls (map v.shown old)) e) answer done.answers)))

      noted : map (read_trace v) new ≡ noted_all true (map (read_trace v) old) (kept_of (event_deeds plan (seatless count) e) answer)
      noted = search (arith, traces_are)

      begun : map v.start new ≡ map v.start old
      begun = starts_same v is.reads new old done.base

      pub goes_there : GoesOn v plan plan before after e answer
      goes_there =
          let step = stages_are plan old new count counted (λ b s t. Answers (stage_apply v.kind b) s e answer t) (stage_done v.kind keeps plan (map v.shown old) (map v.shown new) count counted (fulls_kept keeps v.shown limited old) e answer done told) in
          record {
            kept = event_on v is.reads plan is_plan old new count counted kept e answer step;
            records = record {
              answers = answered;
              free = subst (λ fs. IfOk answer (λ r. is_ready r ≡ true → event_full plan fs e ≡ false)) (fulls_are old) done.free;
              traces = noted;
              starts = begun;
              count = told;
            };
            answers = event_answers v is.reads plan is_plan old new count counted kept e answer step;
          }

      pub goes_on : after.plan ≡ plan → GoesOn v plan after.plan before after e answer
      goes_on same = subst (λ p. GoesOn v plan p before after e answer) (sym same) goes_there

    module _ (events : List Event) (result : Result (Unit {0}) EventFault) (ends : EventsEnd (stage_apply v.kind keeps) (stage_of plan (map v.shown old) count) events result (stage_of plan (map v.shown new) counted)) where
      pub runs_there : RunsOn v plan plan before after events result
      runs_there =
          let there = stages_are plan old new count counted (λ b s t. EventsEnd (stage_apply v.kind b) s events result t) ends in
          record {
            kept = events_on v is.reads plan is_plan old new count counted kept events result there;
            ends = events_end v is.reads plan is_plan old new count counted kept events result there;
          }

    pub runs_on : (events : List Event) (result : Result (Unit {0}) EventFault) → EventsEnd (stage_apply v.kind keeps) (stage_of plan (map v.shown old) count) events result (stage_of after.plan (map v.shown new) counted) → after.plan ≡ plan →
        RunsOn v plan after.plan before after events result
    runs_on events result ends same =
        subst (λ p. RunsOn v plan p before after events result) (sym same)
        (runs_there events result (subst (λ p. EventsEnd (stage_apply v.kind keeps) (stage_of plan (map v.shown old) count) events result (stage_of p (map v.shown new) counted)) same ends))
