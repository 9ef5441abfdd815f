-- What a meter is told of events and of a round over the places of a network whose nodes are seen with their records.
use Rattle.{c104_event.specs.declared.{events.Event.Event, faults.EventFault.EventFault}, c104_node.specs.Places.{IsFullByTrace, bases}}
use Rattle.c104_node.specs.{Places.{started_base, states}, Traces.seatless, declared.starts.NodeStart.NodeStart}
use Rattle.{c104_plan.specs.Plans.{IsPlan, Plan}, c104_run.proofs.MeteredSteps.{event_metered, part_bases, stage_ends}}
use Rattle.c104_run.proofs.{RecordedNets.{places_plain, places_stage, starts_same, states_shown}, RecordedPlaces.{goes_there, runs_there}}
use Rattle.c104_run.proofs.{RecordedPlaces.{stage_is, stages_are}, RecordedStages.plain_stage, SeenRuns.{answers_while, part_while}}
use Rattle.c104_run.{proofs.StageSteps.fulls_kept, specs.{Engines.EngineView, EventRuns.{Answers, EventsEnd}, EventsAtPlaces.EventDone}}
use Rattle.c104_run.specs.{MeteredRuns.{AreOwnNodes, MetersEvent, MetersSo}, Meters.{Metered, Sees, meter_if, metered_apply, metered_of}}
use Rattle.c104_run.specs.{Meters.{own_reply, with_meter}, NetRecords.{is_done, ticket_after}, Network.network_of}
use Rattle.c104_run.specs.{RecordedNets.{IsRecordedNet, KeepsRecord, Reading, places_record, read_state}, RecordedRuns.record_apply}
use Rattle.{c104_run.specs.{RecordedRuns.record_at, RoundParts.PartEnds, Stages.Stage}, c104_switch.specs.Actions.Reply}
use Rattle.std.proofs.Common.{Bool, Err, List, Ok, Result, ap, inl, inr, map, refl, subst, sym, true, ℕ, ◌∙◌, ◌≡◌}

module _ {A M : Type 0} (starts : List NodeStart) where
  -- the same stage, of whose nodes no more is told than where they started
  abbrev pub at_starts : Metered A M → Metered A M
  at_starts x = with_meter (record { network = x.stage.network; bases = map started_base starts; traces = x.stage.traces; count = x.stage.count }) x.meter

-- how a network goes on by a round, and what a meter is told of it
pub record RoundOn {A P M : Type 0} (v : Reading A P) (sees : Sees M A) (plan planned : Plan) (old new : EngineView P) (m n : M) (events : List Event) (result : Result Bool EventFault) : Type 0 where
  pub kept : IsRecordedNet v planned new.places new.count
  pub ends : PartEnds record_apply (places_record v plan old.places old.count) events result (places_record v planned new.places new.count)
  pub meters : MetersSo v.kind (places_record v plan old.places old.count) m (places_record v planned new.places new.count) n (λ x y. PartEnds (metered_apply v.kind true sees) x events result y)

module _ {A P M : Type 0} (v : Reading A P) (keeps : Bool) (is : KeepsRecord v keeps) (limited : (p : P) → IsFullByTrace keeps (v.shown p)) (sees : Sees M A) where
  own_nodes : (plan : Plan) (places : List P) (count : ℕ) → IsRecordedNet v plan places count → AreOwnNodes v.kind (places_record v plan places count) (map (read_state v) places)
  own_nodes plan places count net = record { plain = states_shown v is.reads places; events = net.events; told = net.told }

  -- what is so of metered stages that places show is so of those of the network
  module _ (plan : Plan) (old new : List P) (count counted : ℕ) (m n : M) (is_old : IsRecordedNet v plan old count) (is_new : IsRecordedNet v plan new counted) (same : bases (map v.shown new) ≡ bases (map v.shown old)) where
    same_start : map v.start new ≡ map v.start old
    same_start = starts_same v is.reads new old same

    pub meters_so : (Ends : Bool → Metered A M → Metered A M → Type 0) → ((x y : Metered A M) → Ends true x y → Ends true (at_starts (map v.start old) x) (at_starts (map v.start old) y)) → Ends keeps (metered_of plan (map v.shown old) count m) (metered_of plan (map v.shown new) counted n) →
        MetersSo v.kind (places_record v plan old count) m (places_record v plan new counted) n (λ x y. Ends true x y)
    meters_so Ends seen ends = record {
      before = map (read_state v) old;
      after = map (read_state v) new;
      begun = own_nodes plan old count is_old;
      ended = own_nodes plan new counted is_new;
      ends =
          subst (λ starts. Ends true (at_starts (map v.start old) (with_meter (places_stage v plan old count) m)) (at_starts starts (with_meter (places_stage v plan new counted) n))) (sym same_start)
          (seen (with_meter (places_stage v plan old count) m) (with_meter (places_stage v plan new counted) n)
          (stages_are v keeps is limited plan old new count counted (λ b s t. Ends b (with_meter s m) (with_meter t n)) ends));
    }

    -- where nothing changed at the places, nothing changed of the network
    same_record : ◌≡◌ {A = Metered A M} (metered_of plan (map v.shown new) counted n) (metered_of plan (map v.shown old) count m) → places_record v plan new counted ≡ places_record v plan old count
    same_record stays =
        let stage : places_stage v plan new counted ≡ places_stage v plan old count =
        sym (stage_is v keeps is limited plan new counted) ∙ ap (λ (x : Metered A M). x.stage) stays ∙ stage_is v keeps is limited plan old count in
        sym (places_plain v is.reads plan new counted) ∙ ap (λ starts. record_at starts (plain_stage v.kind (places_stage v plan new counted))) same_start
        ∙ ap (λ (s : Stage A). record_at (map v.start old) (plain_stage v.kind s)) stage ∙ places_plain v is.reads plan old count

  -- of an engine before and after, the second of which has the plan of the first
  module _ (before after : EngineView P) (is_plan : IsPlan before.plan) (m n : M) (kept : IsRecordedNet v before.plan before.places before.count) where
    abbrev plan : Plan
    plan = before.plan

    abbrev old : List P
    old = before.places

    abbrev new : List P
    new = after.places

    abbrev count : ℕ
    count = before.count

    abbrev counted : ℕ
    counted = after.count

    module _ (e : Event) (answer : Result Reply EventFault) (done : EventDone v.kind keeps plan (seatless count) e (map v.shown old) answer (map v.shown new)) (counts : counted ≡ ticket_after count (is_done answer))
        (told : n ≡ meter_if sees (is_done answer) m e (own_reply v.kind (network_of plan (states (map v.shown old))) e)) where
      event_there : MetersEvent v.kind sees (places_record v plan old count) m e answer (places_record v plan new counted) n
      event_there =
          meters_so plan old new count counted m n kept (goes_there v keeps is limited before after is_plan kept e answer done counts).kept done.base
          (λ b x y. Answers (metered_apply v.kind b sees) x e answer y)
          (λ x y answers. answers_while (metered_apply v.kind true sees) (metered_apply v.kind true sees) (at_starts (map v.start old)) (λ z. Unit {0}) (λ z e none. tt) (λ z e none. refl) x y tt e answer answers)
          (event_metered v.kind keeps sees plan (map v.shown old) (map v.shown new) count counted m n (fulls_kept keeps v.shown limited old) e answer done counts told)

      pub meters_on : after.plan ≡ plan → MetersEvent v.kind sees (places_record v plan old count) m e answer (places_record v after.plan new counted) n
      meters_on same = subst (λ p. MetersEvent v.kind sees (places_record v plan old count) m e answer (places_record v p new counted) n) (sym same) event_there

    module _ (events : List Event) (result : Result Bool EventFault) (ends : PartEnds (metered_apply v.kind keeps sees) (metered_of plan (map v.shown old) count m) events result (metered_of plan (map v.shown new) counted n)) where
      abbrev RunsOnTo : Result (Unit {0}) EventFault → Type 0
      RunsOnTo r = EventsEnd (metered_apply v.kind keeps sees) (metered_of plan (map v.shown old) count m) events r (metered_of plan (map v.shown new) counted n)

      on_by : (r : Result (Unit {0}) EventFault) → RunsOnTo r → IsRecordedNet v plan new counted × EventsEnd record_apply (places_record v plan old count) events r (places_record v plan new counted)
      on_by r run =
          let on = runs_there v keeps is limited before after is_plan kept events r (stage_ends v.kind keeps sees (metered_of plan (map v.shown old) count m) (metered_of plan (map v.shown new) counted n) events r run) in
          (on.kept, on.ends)

      kept_by : (r : Result Bool EventFault) → PartEnds (metered_apply v.kind keeps sees) (metered_of plan (map v.shown old) count m) events r (metered_of plan (map v.shown new) counted n) → IsRecordedNet v plan new counted
      kept_by (Ok changed) part = (on_by (Ok tt) (inl (sym part.ends.0))).0
      kept_by (Err f) part = (on_by (Err f) part.ends).0

      abbrev kept_there : IsRecordedNet v plan new counted
      kept_there = kept_by result ends

      same_bases : bases (map v.shown new) ≡ bases (map v.shown old)
      same_bases = part_bases v.kind keeps sees (metered_of plan (map v.shown old) count m) (metered_of plan (map v.shown new) counted n) events result ends

      ends_by : (r : Result Bool EventFault) → PartEnds (metered_apply v.kind keeps sees) (metered_of plan (map v.shown old) count m) events r (metered_of plan (map v.shown new) counted n) →
          PartEnds record_apply (places_record v plan old count) events r (places_record v plan new counted)
      ends_by (Ok changed) part = record {
        ends = (
          elim (on_by (Ok tt) (inl (sym part.ends.0))).1 [
            | inl due ↦ sym due
            | inr short ↦ absurd (cc short.refused)
          ],
          λ none. same_record plan old new count counted m n kept kept_there same_bases (part.ends.1 none),
        );
      }
      ends_by (Err f) part = record { ends = (on_by (Err f) part.ends).1 }

      round_there : RoundOn v sees plan plan before after m n events result
      round_there = record {
        kept = kept_there;
        ends = ends_by result ends;
        meters =
            meters_so plan old new count counted m n kept kept_there same_bases (λ b x y. PartEnds (metered_apply v.kind b sees) x events result y)
            (λ x y part. part_while (metered_apply v.kind true sees) (metered_apply v.kind true sees) (at_starts (map v.start old)) (λ z. Unit {0}) (λ z e none. tt) (λ z e none. refl) x y tt events result part) ends;
      }

    pub round_on : (events : List Event) (result : Result Bool EventFault) → PartEnds (metered_apply v.kind keeps sees) (metered_of plan (map v.shown old) count m) events result (metered_of after.plan (map v.shown new) counted n) → after.plan ≡ plan →
        RoundOn v sees plan after.plan before after m n events result
    round_on events result ends same =
        subst (λ p. RoundOn v sees plan p before after m n events result) (sym same)
        (round_there events result (subst (λ p. PartEnds (metered_apply v.kind keeps sees) (metered_of plan (map v.shown old) count m) events result (metered_of p (map v.shown new) counted n)) same ends))
