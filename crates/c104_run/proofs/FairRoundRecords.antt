-- One fair round as it is seen by the record of a network, and by a meter.
use Rattle.{c104_event.specs.declared.{events.Event.Event, faults.EventFault.EventFault}, c104_node.specs.Places.{IsFullByTrace, bases}}
use Rattle.{c104_node.specs.declared.starts.NodeStart.NodeStart, c104_plan.specs.Plans.{IsPlan, Plan}}
use Rattle.c104_run.proofs.{FairRecords.fair_part, MeteredPlaces.{RoundOn, at_starts, meters_so, round_on}, MeteredSteps.part_bases}
use Rattle.c104_run.proofs.{RecordedNets.{places_plain, places_stage, starts_same}, RecordedPlaces.stages_are, RecordedStages.plain_stage}
use Rattle.c104_run.{proofs.{RecordedStages.record_plain, SeenRuns.part_while}, specs.Engines.{EngineView, engine_at, engine_of}}
use Rattle.c104_run.specs.{FairRounds.{SwitchTurns, fairly, in_turn}, MeteredRuns.MetersSo, Meters.{Metered, Sees, metered_apply}}
use Rattle.c104_run.specs.{Meters.metered_of, NetRecords.NetRecord, RecordedNets.{IsRecordedNet, KeepsRecord, Reading, places_record}}
use Rattle.c104_run.specs.{RecordedRuns.{record_apply, record_at}, RoundParts.PartEnds, Stages.{Stage, stage_apply}}
use Rattle.std.proofs.Common.{Bool, List, Result, ap, map, refl, subst, sym, true, ◌∙◌, ◌≡◌}

-- how a network with its record goes on by a fair round, and what a meter is told of it
pub record FairRoundOn {A P M : Type 0} (v : Reading A P) (sees : Sees M A) (plan planned : Plan) (old new : EngineView P) (m n : M) (t u : List SwitchTurns) (events : List Event) (result : Result Bool EventFault) : Type 0 where
  pub kept : IsRecordedNet v planned new.places new.count
  pub ends : PartEnds (fairly record_apply) (in_turn (places_record v plan old.places old.count) t) events result (in_turn (places_record v planned new.places new.count) u)
  pub meters : MetersSo v.kind (places_record v plan old.places old.count) m (places_record v planned new.places new.count) n (λ x y. PartEnds (fairly (metered_apply v.kind true sees)) (in_turn x t) events result (in_turn y u))

module _ {A P M : Type 0} (v : Reading A P) (keeps : Bool) (is : KeepsRecord v keeps) (limited : (p : P) → IsFullByTrace keeps (v.shown p)) (sees : Sees M A)
    (before after : EngineView P) (is_plan : IsPlan before.plan) (kept : IsRecordedNet v before.plan before.places before.count) (m k : M) (t u : List SwitchTurns) (events : List Event) (result : Result Bool EventFault) where
  abbrev plan : Plan
  plan = before.plan

  abbrev first : Metered A M
  first = engine_at v.shown before m

  abbrev last : Metered A M
  last = metered_of plan (map v.shown after.places) after.count k

  -- without turns it is a part of a run
  plain_part : PartEnds (fairly (metered_apply v.kind keeps sees)) (in_turn first t) events result (in_turn last u) → PartEnds (metered_apply v.kind keeps sees) first events result last
  plain_part part = part_while (fairly (metered_apply v.kind keeps sees)) (metered_apply v.kind keeps sees) (λ z. z.state) (λ z. Unit {0}) (λ z e none. tt) (λ z e none. refl) (in_turn first t) (in_turn last u) tt events result part

  module _ (part : PartEnds (fairly (metered_apply v.kind keeps sees)) (in_turn first t) events result (in_turn last u)) where
    -- with the plan that stays
    abbrev here : EngineView P
    here = engine_of plan after.places after.count

    on : RoundOn v sees plan plan before here m k events result
    on = round_on v keeps is limited sees before here is_plan m k kept events result (plain_part part) refl

    same_bases : bases (map v.shown after.places) ≡ bases (map v.shown before.places)
    same_bases = part_bases v.kind keeps sees first last events result (plain_part part)

    same_starts : map v.start after.places ≡ map v.start before.places
    same_starts = starts_same v is.reads after.places before.places same_bases

    abbrev Staged : Bool → Stage A → Stage A → Type 0
    Staged b s r = PartEnds (fairly (stage_apply v.kind b)) (in_turn s t) events result (in_turn r u)

    staged : Staged true (places_stage v plan before.places before.count) (places_stage v plan after.places after.count)
    staged =
        stages_are v keeps is limited plan before.places after.places before.count after.count Staged
        (fair_part (metered_apply v.kind keeps sees) (stage_apply v.kind keeps) (λ z. z.stage) (λ z e. refl) (in_turn first t) (in_turn last u) events result part)

    abbrev Record : List NodeStart → Stage A → NetRecord
    Record ss s = record_at ss (plain_stage v.kind s)

    abbrev Ends : NetRecord → NetRecord → Type 0
    Ends r q = PartEnds (fairly record_apply) (in_turn r t) events result (in_turn q u)

    recorded : Ends (places_record v plan before.places before.count) (places_record v plan after.places after.count)
    recorded =
        let starts : List NodeStart = map v.start before.places in
        subst (λ r. Ends r (places_record v plan after.places after.count)) (places_plain v is.reads plan before.places before.count)
        (subst (λ q. Ends (Record starts (places_stage v plan before.places before.count)) q)
        (ap (λ ss. Record ss (places_stage v plan after.places after.count)) (sym same_starts) ∙ places_plain v is.reads plan after.places after.count)
        (fair_part (stage_apply v.kind true) record_apply (Record starts) (record_plain v.kind is.reads.tokens starts)
        (in_turn (places_stage v plan before.places before.count) t) (in_turn (places_stage v plan after.places after.count) u) events result staged))

    metered : MetersSo v.kind (places_record v plan before.places before.count) m (places_record v plan after.places after.count) k (λ x y. PartEnds (fairly (metered_apply v.kind true sees)) (in_turn x t) events result (in_turn y u))
    metered =
        meters_so v keeps is limited sees plan before.places after.places before.count after.count m k kept on.kept same_bases
        (λ b x y. PartEnds (fairly (metered_apply v.kind b sees)) (in_turn x t) events result (in_turn y u))
        (λ x y ends. fair_part (metered_apply v.kind true sees) (metered_apply v.kind true sees) (at_starts (map v.start before.places)) (λ z e. refl) (in_turn x t) (in_turn y u) events result ends) part

    there : FairRoundOn v sees plan plan before after m k t u events result
    there = record { kept = on.kept; ends = recorded; meters = metered }

  pub fair_round_on : PartEnds (fairly (metered_apply v.kind keeps sees)) (in_turn first t) events result (in_turn (engine_at v.shown after k) u) → after.plan ≡ plan → FairRoundOn v sees plan after.plan before after m k t u events result
  fair_round_on part same =
      subst (λ p. FairRoundOn v sees plan p before after m k t u events result) (sym same)
      (there (subst (λ p. PartEnds (fairly (metered_apply v.kind keeps sees)) (in_turn first t) events result (in_turn (metered_of p (map v.shown after.places) after.count k) u)) same part))
