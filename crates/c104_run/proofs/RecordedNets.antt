-- A network whose nodes are seen with their records goes on by events.
use Rattle.{c104_event.specs.declared.{events.Event.Event, faults.EventFault.EventFault}, c104_node.specs.MappedNodes.map_node}
use Rattle.c104_node.specs.{Places.{Shown, base_start, bases, states}, declared.{acts.Entry.Entry, starts.NodeStart.NodeStart}}
use Rattle.{c104_plan.specs.Plans.{IsPlan, Plan}, c104_run.proofs.{FirstRecords.map_twice, RecordedStages.{IsRecordedStage, after_plan}}}
use Rattle.c104_run.proofs.{RecordedStages.{apply_plain, plain_network, plain_stage, record_plain, stage_on}, RoundRuns.Applied}
use Rattle.c104_run.proofs.{RoundRuns.{ends_keep, ends_seen}, StepMaps.{limit_map, step_map}, WiredPorts.some_mapped}
use Rattle.c104_run.specs.{Engines.{EngineView, engine_network, engine_record}, EventRuns.{Answers, EventsEnd}, NetRecords.IsNetRecord}
use Rattle.c104_run.specs.{NetRecords.{NetRecord, is_done}, Network.{AnswersWith, Network, WouldBeDone, network_of, network_step}}
use Rattle.c104_run.specs.RecordedNets.{IsReading, IsRecordedNet, KeepsTokens, Reading, places_record, read_state, read_trace}
use Rattle.c104_run.specs.{RecordedRuns.{AnswersRecord, record_apply, record_at}, Stages.{Stage, stage_apply}}
use Rattle.{c104_switch.specs.Actions.Reply, c104_token.specs.{Kinds.{Kind, plain_kind}, declared.tokens.Token.{TheVariants.Byte, Token}}}
use Rattle.std.proofs.Common.{Bool, List, Result, Some, [], ap, arith, inl, inr, is_some, map, refl, subst, sym, true, ℕ, ◌∙◌, ◌∷◌, ◌≡◌}

-- a list that is mapped by two functions that agree
pub map_same : {X Y : Type 0} (f g : X → Y) → ((x : X) → f x ≡ g x) → (xs : List X) → map f xs ≡ map g xs
map_same f g same xs = search arith

somes_same : (xs ys : List NodeStart) → map Some xs ≡ map Some ys → xs ≡ ys
somes_same [] [] is = refl
somes_same (x ∷ xs) (y ∷ ys) is =
    let first : x ≡ y = cc in
    let rest : map Some xs ≡ map Some ys = cc in
    ap (λ z. z ∷ xs) first ∙ ap (λ zs. y ∷ zs) (somes_same xs ys rest)
somes_same xs ys is = cc

abbrev record_of : Network Token → List NodeStart → List (List Entry) → ℕ → NetRecord
record_of network starts traces count = record { network = network; starts = starts; traces = traces; count = count }

module _ {A P : Type 0} (v : Reading A P) where
  -- the stage that such places show
  abbrev pub places_stage : Plan → List P → ℕ → Stage A
  places_stage plan places count = record {
    network = network_of plan (map (read_state v) places);
    bases = bases (map v.shown places);
    traces = map (read_trace v) places;
    count = count;
  }

module _ {A P : Type 0} (v : Reading A P) (reads : IsReading v) where
  -- where the nodes started, by what the places show
  starts_shown : (places : List P) → map base_start (bases (map v.shown places)) ≡ map Some (map v.start places)
  starts_shown places =
      ap (map base_start) (map_twice (λ (s : Shown A). s.base) v.shown places) ∙ map_twice base_start (λ p. (v.shown p).base) places
      ∙ map_same (λ p. (v.shown p).base.start) (λ p. Some (v.start p)) reads.started places ∙ sym (map_twice Some v.start places)

  same_starts : (plan : Plan) (places : List P) (count : ℕ) (starts : List NodeStart) → IsRecordedStage v.kind starts (places_stage v plan places count) → starts ≡ map v.start places
  same_starts plan places count starts is = sym (somes_same (map v.start places) starts (sym (starts_shown places) ∙ is.begun))

  -- where what no act changes stays, they started there too
  pub starts_same : (new old : List P) → bases (map v.shown new) ≡ bases (map v.shown old) → map v.start new ≡ map v.start old
  starts_same new old same = somes_same (map v.start new) (map v.start old) (sym (starts_shown new) ∙ ap (map base_start) same ∙ starts_shown old)

  -- what places show over plain tokens
  pub states_shown : (places : List P) → map (map_node v.kind.plain) (map (read_state v) places) ≡ map v.plain places
  states_shown places = map_twice (map_node v.kind.plain) (read_state v) places ∙ map_same (λ p. map_node v.kind.plain (read_state v p)) v.plain (λ p. sym (reads.plain p)) places

  -- the same, by what the places show
  pub states_plain : (places : List P) → map (map_node v.kind.plain) (states (map v.shown places)) ≡ map v.plain places
  states_plain places = ap (map (map_node v.kind.plain)) (map_twice (λ (s : Shown A). s.state) v.shown places) ∙ states_shown places

  -- over plain tokens their stage is that of the network
  pub places_plain : (plan : Plan) (places : List P) (count : ℕ) → record_at (map v.start places) (plain_stage v.kind (places_stage v plan places count)) ≡ places_record v plan places count
  places_plain plan places count = ap (λ ns. record_of (network_of plan ns) (map v.start places) (map (read_trace v) places) count) (states_shown places)

  -- what is seen of an engine's network is what is seen of the network with its record
  pub seen_plain : {X : Type 0} (of : Network A → X) (told : Network Token → X) → ((net : Network A) → told (plain_network v.kind net) ≡ of net) → (e : EngineView P) (r : NetRecord) → engine_record v e ≡ r → of (engine_network v.shown e) ≡ told r.network
  seen_plain of told same e r is = search (arith, states_plain)

  stage_kept : (plan : Plan) (places : List P) (count : ℕ) → IsRecordedNet v plan places count → IsRecordedStage v.kind (map v.start places) (places_stage v plan places count)
  stage_kept plan places count is = search (arith, starts_shown, places_plain)

  net_kept : (plan : Plan) (places : List P) (count : ℕ) → IsRecordedStage v.kind (map v.start places) (places_stage v plan places count) → IsRecordedNet v plan places count
  net_kept plan places count is = record {
    kept = subst IsNetRecord (places_plain plan places count) is.kept;
    events = is.events;
    told = is.told;
  }

  module _ (plan : Plan) (is_plan : IsPlan plan) (old new : List P) (count counted : ℕ) (before : IsRecordedNet v plan old count) where
    abbrev starts : List NodeStart
    starts = map v.start old

    abbrev from : Stage A
    from = places_stage v plan old count

    abbrev to : Stage A
    to = places_stage v plan new counted

    -- what is left of a stage is what is left of the network
    end_kept : IsRecordedStage v.kind starts to → IsRecordedNet v plan new counted
    end_kept is = net_kept plan new counted (subst (λ ss. IsRecordedStage v.kind ss to) (same_starts plan new counted starts is) is)

    end_plain : IsRecordedStage v.kind starts to → record_at starts (plain_stage v.kind to) ≡ places_record v plan new counted
    end_plain is = ap (λ ss. record_at ss (plain_stage v.kind to)) (same_starts plan new counted starts is) ∙ places_plain plan new counted

    -- one event
    answers_kept : (e : Event) (answer : Result Reply EventFault) → Answers (stage_apply v.kind true) from e answer to → IsRecordedStage v.kind starts to
    answers_kept e answer (inl due) = subst (IsRecordedStage v.kind starts) (sym (ap (λ (d : Applied (Stage A)). d.1) due)) (stage_on v.kind reads.tokens starts from e is_plan (stage_kept plan old count before))
    answers_kept e answer (inr refused) = subst (IsRecordedStage v.kind starts) (sym refused.2) (stage_kept plan old count before)

    answers_seen : (e : Event) (answer : Result Reply EventFault) → Answers (stage_apply v.kind true) from e answer to → AnswersRecord (record_at starts (plain_stage v.kind from)) e answer (record_at starts (plain_stage v.kind to))
    answers_seen e answer (inl due) = inl (ap (λ (d : Applied (Stage A)). (d.0, record_at starts (plain_stage v.kind d.1))) due ∙ record_plain v.kind reads.tokens starts from e)
    answers_seen e answer (inr refused) = inr (refused.0, ap (λ (d : Applied NetRecord). is_done d.0) (sym (record_plain v.kind reads.tokens starts from e)) ∙ refused.1, ap (λ s. record_at starts (plain_stage v.kind s)) refused.2)

    module _ (e : Event) (answer : Result Reply EventFault) (stepped : Answers (stage_apply v.kind true) from e answer to) where
      pub event_on : IsRecordedNet v plan new counted
      event_on = end_kept (answers_kept e answer stepped)

      pub event_answers : AnswersRecord (places_record v plan old count) e answer (places_record v plan new counted)
      event_answers =
          subst (λ r. AnswersRecord r e answer (places_record v plan new counted)) (places_plain plan old count)
          (subst (λ r. AnswersRecord (record_at starts (plain_stage v.kind from)) e answer r) (end_plain (answers_kept e answer stepped)) (answers_seen e answer stepped))

    -- events in turn
    module _ (events : List Event) (result : Result (Unit {0}) EventFault) (ends : EventsEnd (stage_apply v.kind true) from events result to) where
      ends_kept : IsRecordedStage v.kind starts to
      ends_kept =
          (ends_keep (stage_apply v.kind true) (λ s. IsPlan s.network.plan × IsRecordedStage v.kind starts s)
          (λ s e holds. (subst IsPlan (sym (after_plan v.kind reads.tokens starts s e holds.0 holds.1)) holds.0, stage_on v.kind reads.tokens starts s e holds.0 holds.1))
          from to events result (is_plan, stage_kept plan old count before) ends).1

      pub events_on : IsRecordedNet v plan new counted
      events_on = end_kept ends_kept

      pub events_end : EventsEnd record_apply (places_record v plan old count) events result (places_record v plan new counted)
      events_end =
          subst (λ r. EventsEnd record_apply r events result (places_record v plan new counted)) (places_plain plan old count)
          (subst (λ r. EventsEnd record_apply (record_at starts (plain_stage v.kind from)) events result r) (end_plain ends_kept)
          (ends_seen (stage_apply v.kind true) record_apply (λ s. record_at starts (plain_stage v.kind s)) (record_plain v.kind reads.tokens starts) from to events result ends))

-- what an event over any kind of token answers and leaves is what it does over plain tokens
module _ {A : Type 0} (kind : Kind A) (tokens : KeepsTokens kind) (net after : Network A) (e : Event) where
  random_plain : (j b : ℕ) → ◌≡◌ {A = Token} (Byte b) (kind.plain (kind.random j (Byte b)))
  random_plain j b = sym (tokens.random j (Byte b))

  sent_plain : (t n j : ℕ) (x : Token) → x ≡ kind.plain (kind.sent t n j x)
  sent_plain t n j x = sym (tokens.sent t n j x)

  would_plain : WouldBeDone kind net e → WouldBeDone plain_kind (plain_network kind net) e
  would_plain would = (
    would.0,
    ap is_some (step_map kind.plain kind plain_kind (λ x. refl) random_plain sent_plain net e) ∙ some_mapped _ (network_step kind net e) ∙ would.1,
    limit_map kind.plain kind plain_kind (λ x. refl) random_plain net e ∙ would.2,
  )

  pub answers_plain : (full : Bool) (answer : Result Reply EventFault) → AnswersWith kind full net e answer after → AnswersWith plain_kind full (plain_network kind net) e answer (plain_network kind after)
  answers_plain full answer answers = search (arith, plain_network, apply_plain, would_plain)
