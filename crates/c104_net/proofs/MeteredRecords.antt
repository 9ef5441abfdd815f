-- What a meter is told of a network of tagged tokens, by its record.
use Rattle.{c104_event.specs.declared.{events.Event.Event, faults.EventFault.EventFault}, c104_net.proofs.OwnEnds.own_end}
use Rattle.{c104_net.specs.MeteredRecords.{MeteredRecord, at_meter, record_metered, tagged_net}, c104_node.specs.Nodes.Node}
use Rattle.c104_node.specs.{Places.{base_start, started_base}, Tagged.tagged_kind, declared.starts.NodeStart.NodeStart}
use Rattle.{c104_node.specs.declared.tagged.TaggedToken.TaggedToken, c104_plan.specs.Plans.IsPlan, c104_run.proofs.FirstRecords.map_twice}
use Rattle.c104_run.proofs.{RecordedStages.{IsRecordedStage, after_plan, plain_stage, record_plain, stage_on}, RoundRuns.Applied}
use Rattle.c104_run.{proofs.{RoundRuns.ends_keep, SeenRuns.{answers_while, part_while}}, specs.{EventRuns.Answers, FairRounds.fairly}}
use Rattle.c104_run.specs.{FairRounds.{in_turn, turned_if}, MeteredRuns.{AreOwnNodes, MetersEvent, MetersSo, own_stage}, Meters.Metered}
use Rattle.c104_run.specs.{Meters.{Sees, meter_if, metered_apply, own_reply, with_meter}, NetRecords.{IsNetRecord, NetRecord, is_done}}
use Rattle.c104_run.specs.{Network.{Network, network_of}, RecordedNets.KeepsTokens, RecordedPlaces.counted_keeps, RecordedRuns.record_apply}
use Rattle.c104_run.specs.{RecordedRuns.record_at, RoundParts.PartEnds, Stages.stage_apply, declared.turns.SwitchTurns.SwitchTurns}
use Rattle.{c104_switch.specs.Actions.Reply, c104_token.specs.declared.tokens.Token.Token, std.proofs.Common.{Bool, Err, List, Ok, Result}}
use Rattle.std.proofs.Common.{ap, inl, refl, subst, sym, true, ◌∙◌, ◌≡◌}

abbrev tokens : KeepsTokens tagged_kind
tokens = counted_keeps.reads.tokens

module _ {M : Type 0} (sees : Sees M TaggedToken) (starts : List NodeStart) where
  -- what is seen of a metered stage
  abbrev seen : Metered TaggedToken M → MeteredRecord M
  seen x = at_meter (record_at starts (plain_stage tagged_kind x.stage)) x.meter

  -- what is kept of it
  abbrev Kept : Metered TaggedToken M → Type 0
  Kept x = IsPlan x.stage.network.plan × IsRecordedStage tagged_kind starts x.stage

  keeps : (x : Metered TaggedToken M) (e : Event) → Kept x → Kept (metered_apply tagged_kind true sees x e).1
  keeps x e holds = (subst IsPlan (sym (after_plan tagged_kind tokens starts x.stage e holds.0 holds.1)) holds.0, stage_on tagged_kind tokens starts x.stage e holds.0 holds.1)

  -- its nodes are those that the record determines
  own_there : (x : Metered TaggedToken M) → Kept x → tagged_net (record_at starts (plain_stage tagged_kind x.stage)) ≡ x.stage.network
  own_there x holds =
      own_end (record_at starts (plain_stage tagged_kind x.stage)) holds.0 holds.1.kept.started.in_place x.stage.network.nodes
      (record { plain = refl; events = holds.1.events; told = holds.1.told })

  follows : (x : Metered TaggedToken M) (e : Event) → Kept x → ◌≡◌ {A = Applied (MeteredRecord M)} ((metered_apply tagged_kind true sees x e).0, seen (metered_apply tagged_kind true sees x e).1) (record_metered sees (seen x) e)
  follows x e holds =
      ap (λ (net : Network TaggedToken). ((stage_apply tagged_kind true x.stage e).0, at_meter (record_at starts (plain_stage tagged_kind (stage_apply tagged_kind true x.stage e).1)) (meter_if sees (is_done (stage_apply tagged_kind true x.stage e).0) x.meter e (own_reply tagged_kind net e))))
      (sym (own_there x holds))
      ∙ ap (λ (d : Applied NetRecord). (d.0, at_meter d.1 (meter_if sees (is_done d.0) x.meter e (own_reply tagged_kind (tagged_net (record_at starts (plain_stage tagged_kind x.stage))) e)))) (record_plain tagged_kind tokens starts x.stage e)

-- the record of the stage over its own nodes
stage_record : (starts : List NodeStart) (r : NetRecord) (nodes : List (Node TaggedToken)) → starts ≡ r.starts → AreOwnNodes tagged_kind r nodes → record_at starts (plain_stage tagged_kind (own_stage r nodes)) ≡ r
stage_record starts r nodes same own =
    ap (λ (ns : List (Node Token)). record { network = network_of r.network.plan ns; starts = starts; traces = r.traces; count = r.count }) own.plain
    ∙ ap (λ (ss : List NodeStart). record r { starts = ss }) same

-- where nodes start no event changes
part_starts : (old new : NetRecord) (events : List Event) (result : Result Bool EventFault) → PartEnds record_apply old events result new → new.starts ≡ old.starts
part_starts old new events (Ok changed) part = ends_keep record_apply (λ r. r.starts ≡ old.starts) (λ r e same. same) old new events (Ok tt) refl (inl (sym part.ends.0))
part_starts old new events (Err f) part = ends_keep record_apply (λ r. r.starts ≡ old.starts) (λ r e same. same) old new events (Err f) refl part.ends

module _ {M : Type 0} (sees : Sees M TaggedToken) (old new : NetRecord) (m n : M) (is_plan : IsPlan old.network.plan) (is : IsNetRecord old) where
  -- the stage at which something begins
  kept_there : (nodes : List (Node TaggedToken)) → AreOwnNodes tagged_kind old nodes → IsRecordedStage tagged_kind old.starts (own_stage old nodes)
  kept_there nodes own = record {
    begun = map_twice base_start started_base old.starts;
    kept = subst IsNetRecord (sym (stage_record old.starts old nodes refl own)) is;
    events = own.events;
    told = own.told;
  }

  seen_old : (nodes : List (Node TaggedToken)) → AreOwnNodes tagged_kind old nodes → seen sees old.starts (with_meter (own_stage old nodes) m) ≡ at_meter old m
  seen_old nodes own = ap (λ (r : NetRecord). at_meter r m) (stage_record old.starts old nodes refl own)

  seen_new : new.starts ≡ old.starts → (nodes : List (Node TaggedToken)) → AreOwnNodes tagged_kind new nodes → seen sees old.starts (with_meter (own_stage new nodes) n) ≡ at_meter new n
  seen_new same nodes own = ap (λ (r : NetRecord). at_meter r n) (stage_record old.starts new nodes (sym same) own)

  pub part_told : (events : List Event) (result : Result Bool EventFault) → PartEnds record_apply old events result new → MetersSo tagged_kind old m new n (λ x y. PartEnds (metered_apply tagged_kind true sees) x events result y) → PartEnds (record_metered sees) (at_meter old m) events result (at_meter new n)
  part_told events result records meters =
      subst (λ x. PartEnds (record_metered sees) x events result (at_meter new n)) (seen_old meters.before meters.begun)
      (subst (λ y. PartEnds (record_metered sees) (seen sees old.starts (with_meter (own_stage old meters.before) m)) events result y) (seen_new (part_starts old new events result records) meters.after meters.ended)
      (part_while (metered_apply tagged_kind true sees) (record_metered sees) (seen sees old.starts) (Kept sees old.starts) (keeps sees old.starts) (follows sees old.starts)
      (with_meter (own_stage old meters.before) m) (with_meter (own_stage new meters.after) n) (is_plan, kept_there meters.before meters.begun) events result meters.ends))

  -- the same of a part by turns
  module _ (t u : List SwitchTurns) (events : List Event) (result : Result Bool EventFault) where
    fair_starts : PartEnds (fairly record_apply) (in_turn old t) events result (in_turn new u) → new.starts ≡ old.starts
    fair_starts part = part_starts old new events result (part_while (fairly record_apply) record_apply (λ z. z.state) (λ z. Unit {0}) (λ z e none. tt) (λ z e none. refl) (in_turn old t) (in_turn new u) tt events result part)

    pub fair_told : PartEnds (fairly record_apply) (in_turn old t) events result (in_turn new u) → MetersSo tagged_kind old m new n (λ x y. PartEnds (fairly (metered_apply tagged_kind true sees)) (in_turn x t) events result (in_turn y u)) → PartEnds (fairly (record_metered sees)) (in_turn (at_meter old m) t) events result (in_turn (at_meter new n) u)
    fair_told records meters =
        subst (λ x. PartEnds (fairly (record_metered sees)) (in_turn x t) events result (in_turn (at_meter new n) u)) (seen_old meters.before meters.begun)
        (subst (λ y. PartEnds (fairly (record_metered sees)) (in_turn (seen sees old.starts (with_meter (own_stage old meters.before) m)) t) events result (in_turn y u)) (seen_new (fair_starts records) meters.after meters.ended)
        (part_while (fairly (metered_apply tagged_kind true sees)) (fairly (record_metered sees)) (λ x. in_turn (seen sees old.starts x.state) x.turns) (λ x. Kept sees old.starts x.state) (λ x. keeps sees old.starts x.state)
        (λ x e kept. ap (λ (r : Applied (MeteredRecord M)). (r.0, in_turn r.1 (turned_if (is_done r.0) x.turns e))) (follows sees old.starts x.state e kept))
        (in_turn (with_meter (own_stage old meters.before) m) t) (in_turn (with_meter (own_stage new meters.after) n) u) (is_plan, kept_there meters.before meters.begun) events result meters.ends))

  pub event_told : (e : Event) (answer : Result Reply EventFault) → new.starts ≡ old.starts → MetersEvent tagged_kind sees old m e answer new n → Answers (record_metered sees) (at_meter old m) e answer (at_meter new n)
  event_told e answer same meters =
      subst (λ x. Answers (record_metered sees) x e answer (at_meter new n)) (seen_old meters.before meters.begun)
      (subst (λ y. Answers (record_metered sees) (seen sees old.starts (with_meter (own_stage old meters.before) m)) e answer y) (seen_new same meters.after meters.ended)
      (answers_while (metered_apply tagged_kind true sees) (record_metered sees) (seen sees old.starts) (Kept sees old.starts) (keeps sees old.starts) (follows sees old.starts)
      (with_meter (own_stage old meters.before) m) (with_meter (own_stage new meters.after) n) (is_plan, kept_there meters.before meters.begun) e answer meters.ends))
