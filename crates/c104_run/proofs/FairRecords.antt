-- Fair rounds as they are seen: by any state that follows, and so by the record of a network.
use Rattle.{c104_event.specs.declared.{events.Event.Event, faults.EventFault.EventFault}, c104_node.specs.Places.{IsFullByTrace, bases}}
use Rattle.{c104_node.specs.declared.starts.NodeStart.NodeStart, c104_plan.specs.Plans.{IsPlan, Plan}}
use Rattle.c104_run.proofs.{MeteredSteps.stage_ends, RecordedNets.{places_plain, places_stage, starts_same}, RecordedPlaces.RunsOn}
use Rattle.c104_run.proofs.{RecordedPlaces.{runs_on, stages_are}, RecordedStages.{plain_stage, record_plain}, RoundRuns.Applied}
use Rattle.c104_run.{proofs.{RoundRuns.{ends_keep, ends_seen, run_seen}, SeenRuns.part_while}, specs.Engines.{EngineView, engine_at}}
use Rattle.c104_run.specs.{EventRuns.{EventsEnd, Outcome, run_events}, FairRounds.{InTurn, SwitchTurns, fair_events, fair_round, fairly}}
use Rattle.c104_run.specs.{FairRounds.{in_turn, turned_if}, HandedWords.{Words, words_behind}, Meters.{Metered, Sees, metered_apply}}
use Rattle.c104_run.specs.{NetRecords.{NetRecord, is_done}, RecordedNets.{IsRecordedNet, KeepsRecord, Reading, places_record}}
use Rattle.c104_run.specs.{RecordedRuns.{record_apply, record_at}, RoundParts.PartEnds, Stages.{Stage, stage_apply, stage_of}}
use Rattle.std.proofs.Common.{Bool, List, Result, ap, length, map, refl, subst, suc, sym, true, zero, ℕ, ◌++◌, ◌∙◌, ◌≡◌}

module _ {S R : Type 0} (apply : S → Event → Applied S) (apply_seen : R → Event → Applied R) (seen : S → R)
    (follows : (s : S) (e : Event) → ◌≡◌ {A = Applied R} ((apply s e).0, seen (apply s e).1) (apply_seen (seen s) e)) where
  abbrev pub turn_seen : InTurn S → InTurn R
  turn_seen x = in_turn (seen x.state) x.turns

  turn_follows : (x : InTurn S) (e : Event) → ◌≡◌ {A = Applied (InTurn R)} ((fairly apply x e).0, turn_seen (fairly apply x e).1) (fairly apply_seen (turn_seen x) e)
  turn_follows x e = ap (λ (r : Applied R). (r.0, in_turn r.1 (turned_if (is_done r.0) x.turns e))) (follows x.state e)

  -- the events are the same
  events_seen : (words : Words) (plan : Plan) (n : ℕ) (x : InTurn S) → fair_events apply words plan n x ≡ fair_events apply_seen words plan n (turn_seen x)
  events_seen words plan zero x = refl
  events_seen words plan (suc n) x =
      let now : List Event = fair_round words x.turns plan in
      let later : Words = words_behind words (length plan.switches) in
      ap (λ es. now ++ es)
      (events_seen later plan n (run_events (fairly apply) x now).1
      ∙ ap (λ (r : Outcome (InTurn R)). fair_events apply_seen later plan n r.1) (run_seen (fairly apply) (fairly apply_seen) turn_seen turn_follows now x))

  pub fair_seen : (words : Words) (plan : Plan) (n : ℕ) (x y : InTurn S) (result : Result (Unit {0}) EventFault) → EventsEnd (fairly apply) x (fair_events apply words plan n x) result y →
      EventsEnd (fairly apply_seen) (turn_seen x) (fair_events apply_seen words plan n (turn_seen x)) result (turn_seen y)
  fair_seen words plan n x y result ends =
      subst (λ es. EventsEnd (fairly apply_seen) (turn_seen x) es result (turn_seen y)) (events_seen words plan n x)
      (ends_seen (fairly apply) (fairly apply_seen) turn_seen turn_follows x y (fair_events apply words plan n x) result ends)

-- without its turns a fair run is a run
pub fair_plain : {S : Type 0} (apply : S → Event → Applied S) (x y : InTurn S) (events : List Event) (result : Result (Unit {0}) EventFault) → EventsEnd (fairly apply) x events result y → EventsEnd apply x.state events result y.state
fair_plain apply x y events result ends = ends_seen (fairly apply) apply (λ z. z.state) (λ z e. refl) x y events result ends

-- how a network with its record goes on by fair rounds
pub record FairOn {A P : Type 0} (v : Reading A P) (words : Words) (n : ℕ) (plan planned : Plan) (old new : EngineView P) (t u : List SwitchTurns) (result : Result (Unit {0}) EventFault) : Type 0 where
  pub kept : IsRecordedNet v planned new.places new.count
  pub ends : EventsEnd (fairly record_apply) (in_turn (places_record v plan old.places old.count) t)
      (fair_events record_apply words plan n (in_turn (places_record v plan old.places old.count) t)) result (in_turn (places_record v planned new.places new.count) u)

module _ {A P M : Type 0} (v : Reading A P) (keeps : Bool) (is : KeepsRecord v keeps) (limited : (p : P) → IsFullByTrace keeps (v.shown p)) (sees : Sees M A)
    (before after : EngineView P) (is_plan : IsPlan before.plan) (kept : IsRecordedNet v before.plan before.places before.count) (m k : M) (t u : List SwitchTurns) (words : Words) (n : ℕ) (result : Result (Unit {0}) EventFault) where
  abbrev plan : Plan
  plan = before.plan

  abbrev first : InTurn (Metered A M)
  first = in_turn (engine_at v.shown before m) t

  abbrev last : InTurn (Metered A M)
  last = in_turn (engine_at v.shown after k) u

  abbrev begun : InTurn NetRecord
  begun = in_turn (places_record v plan before.places before.count) t

  module _ (same : after.plan ≡ plan) (ends : EventsEnd (fairly (metered_apply v.kind keeps sees)) first (fair_events (metered_apply v.kind keeps sees) words plan n first) result last) where
    abbrev events : List Event
    events = fair_events (metered_apply v.kind keeps sees) words plan n first

    plain_ends : EventsEnd (metered_apply v.kind keeps sees) first.state events result last.state
    plain_ends = fair_plain (metered_apply v.kind keeps sees) first last events result ends

    on : RunsOn v plan after.plan before after events result
    on = runs_on v keeps is limited before after is_plan kept events result (stage_ends v.kind keeps sees first.state last.state events result plain_ends) same

    -- over the stages that the network keeps
    abbrev Staged : Bool → Stage A → Stage A → Type 0
    Staged b s r = EventsEnd (fairly (stage_apply v.kind b)) (in_turn s t) (fair_events (stage_apply v.kind b) words plan n (in_turn s t)) result (in_turn r u)

    shown_ends : Staged keeps (stage_of plan (map v.shown before.places) before.count) (stage_of plan (map v.shown after.places) after.count)
    shown_ends =
        subst (λ p. Staged keeps (stage_of plan (map v.shown before.places) before.count) (stage_of p (map v.shown after.places) after.count)) same
        (fair_seen (metered_apply v.kind keeps sees) (stage_apply v.kind keeps) (λ z. z.stage) (λ z e. refl) words plan n first last result ends)

    staged : Staged true (places_stage v plan before.places before.count) (places_stage v plan after.places after.count)
    staged = stages_are v keeps is limited plan before.places after.places before.count after.count Staged shown_ends

    abbrev starts : List NodeStart
    starts = map v.start before.places

    abbrev Record : List NodeStart → Stage A → NetRecord
    Record ss s = record_at ss (plain_stage v.kind s)

    recorded : EventsEnd (fairly record_apply) (in_turn (Record starts (places_stage v plan before.places before.count)) t)
        (fair_events record_apply words plan n (in_turn (Record starts (places_stage v plan before.places before.count)) t)) result (in_turn (Record starts (places_stage v plan after.places after.count)) u)
    recorded =
        fair_seen (stage_apply v.kind true) record_apply (Record starts) (record_plain v.kind is.reads.tokens starts) words plan n
        (in_turn (places_stage v plan before.places before.count) t) (in_turn (places_stage v plan after.places after.count) u) result staged

    same_bases : bases (map v.shown after.places) ≡ bases (map v.shown before.places)
    same_bases = ends_keep (metered_apply v.kind keeps sees) (λ z. z.stage.bases ≡ bases (map v.shown before.places)) (λ z e stays. stays) first.state last.state events result refl plain_ends

    same_starts : map v.start after.places ≡ starts
    same_starts = starts_same v is.reads after.places before.places same_bases

    abbrev Ends : NetRecord → NetRecord → Type 0
    Ends r q = EventsEnd (fairly record_apply) (in_turn r t) (fair_events record_apply words plan n (in_turn r t)) result (in_turn q u)

    there : Ends (places_record v plan before.places before.count) (places_record v plan after.places after.count)
    there =
        subst (λ r. Ends r (places_record v plan after.places after.count)) (places_plain v is.reads plan before.places before.count)
        (subst (λ q. Ends (Record starts (places_stage v plan before.places before.count)) q)
        (ap (λ ss. Record ss (places_stage v plan after.places after.count)) (sym same_starts) ∙ places_plain v is.reads plan after.places after.count) recorded)

    pub fair_on : FairOn v words n plan after.plan before after t u result
    fair_on = record { kept = on.kept; ends = subst (λ p. Ends (places_record v plan before.places before.count) (places_record v p after.places after.count)) (sym same) there }

-- a part of a fair run, as it is seen
module _ {S R : Type 0} (apply : S → Event → Applied S) (apply_seen : R → Event → Applied R) (seen : S → R)
    (follows : (s : S) (e : Event) → ◌≡◌ {A = Applied R} ((apply s e).0, seen (apply s e).1) (apply_seen (seen s) e)) where
  pub fair_part : (x y : InTurn S) (events : List Event) (result : Result Bool EventFault) → PartEnds (fairly apply) x events result y → PartEnds (fairly apply_seen) (turn_seen apply apply_seen seen follows x) events result (turn_seen apply apply_seen seen follows y)
  fair_part x y events result part =
      part_while (fairly apply) (fairly apply_seen) (turn_seen apply apply_seen seen follows) (λ z. Unit {0}) (λ z e none. tt) (λ z e none. turn_follows apply apply_seen seen follows z e) x y tt events result part
