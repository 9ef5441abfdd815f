-- A run of events over a network with its record is one over its network, where no fault stops it; and those of its
-- events that were done are a run of events that were done.
use Rattle.{c104_event.specs.declared.{events.Event.Event, faults.EventFault.EventFault}, c104_run.proofs.RecordedRuns.record_plan}
use Rattle.c104_run.{proofs.RoundRuns.{Applied, ends_keep, undone_leaves}, specs.EventRuns.{EventsEnd, Outcome, run_events, unless_fault}}
use Rattle.c104_run.specs.{NetRecords.{NetRecord, is_done}, Network.{Network, network_apply}, RecordedRuns.{record_apply, record_stage}}
use Rattle.{c104_run.specs.{Runs.IsDoneRun, Stages.stage_full}, c104_switch.specs.Actions.{Reply, is_ready}, c104_token.specs.Kinds.Kind}
use Rattle.{c104_token.specs.{Kinds.plain_kind, declared.tokens.Token.Token}, std.proofs.Common.{Bool, Err, List, Ok, Result, [], ap}}
use Rattle.std.proofs.Common.{false, if◌then◌else◌, inl, refl, subst, sym, true, ◌&&◌, ◌++◌, ◌∙◌, ◌∷◌, ◌≡◌}

module _ (r : NetRecord) (e : Event) where
  abbrev due : Applied (Network Token)
  due = network_apply plain_kind r.network e

  -- an event that is answered is answered so in the network
  answered : (b : Bool) (x : Reply) → (if◌then◌else◌ {A = Applied (Network Token)} b (Err EventFault.TraceFull, r.network) due).0 ≡ Ok x → ◌≡◌ {A = Applied (Network Token)} (Ok x, (if◌then◌else◌ {A = Applied (Network Token)} b (Err EventFault.TraceFull, r.network) due).1) due
  answered true x is = absurd (cc)
  answered false x is = ap (λ o. (o, due.1)) (sym is)

  pub applied_plain : (x : Reply) → (record_apply r e).0 ≡ Ok x → ◌≡◌ {A = Applied (Network Token)} (Ok x, (record_apply r e).1.network) due
  applied_plain x is = answered (stage_full true (record_stage r) e && is_done due.0) x is

abbrev PlainRun : NetRecord → List Event → NetRecord → Type 0
PlainRun r es after = ◌≡◌ {A = Outcome (Network Token)} (run_events (network_apply plain_kind) r.network es) (Ok tt, after.network)

pub plain_run : (es : List Event) (r after : NetRecord) → ◌≡◌ {A = Outcome NetRecord} (run_events record_apply r es) (Ok tt, after) → PlainRun r es after
plain_run [] r after is = ap (λ (z : Outcome NetRecord). (z.0, z.1.network)) is
plain_run (e ∷ es) r after is = on (record_apply r e).0 (applied_plain r e) (λ rest. plain_run es (record_apply r e).1 after rest) is
  where
    on : (answer : Result Reply EventFault) → ((x : Reply) → answer ≡ Ok x → ◌≡◌ {A = Applied (Network Token)} (Ok x, (record_apply r e).1.network) (network_apply plain_kind r.network e)) →
        (◌≡◌ {A = Outcome NetRecord} (run_events record_apply (record_apply r e).1 es) (Ok tt, after) → PlainRun (record_apply r e).1 es after) →
        ◌≡◌ {A = Outcome NetRecord} (unless_fault answer (record_apply r e).1 (λ next. run_events record_apply next es)) (Ok tt, after) → PlainRun r (e ∷ es) after
    on (Err f) plain later rest = let told : ◌≡◌ {A = Result (Unit {0}) EventFault} (Err f) (Ok tt) = ap (λ (z : Outcome NetRecord). z.0) rest in absurd (cc)
    on (Ok x) plain later rest = ap (λ (z : Applied (Network Token)). unless_fault z.0 z.1 (λ n. run_events (network_apply plain_kind) n es)) (sym (plain x refl)) ∙ later rest

-- the plan and the starts stay
pub starts_stay : (net after : NetRecord) (es : List Event) (result : Result (Unit {0}) EventFault) → EventsEnd record_apply net es result after → (after.network.plan ≡ net.network.plan) × (after.starts ≡ net.starts)
starts_stay net after es result ends = ends_keep record_apply (λ (r : NetRecord). (r.network.plan ≡ net.network.plan) × (r.starts ≡ net.starts)) (λ r e h. (record_plan r e ∙ h.0, h.1)) net after es result (refl, refl) ends

module _ {A : Type 0} (kind : Kind A) where
  -- one run after another
  pub done_after : (net mid ended : Network A) (events more : List (Event × Reply)) → IsDoneRun kind net events mid → IsDoneRun kind mid more ended → IsDoneRun kind net (events ++ more) ended
  done_after net mid ended [] more first next = subst (λ n. IsDoneRun kind n more ended) first next
  done_after net mid ended (e ∷ events) more first next = (first.0, first.1, first.2, done_after first.0 mid ended events more first.3 next)

  abbrev DoneRun : Network A → Network A → Type 0
  DoneRun net ended = (events : List (Event × Reply)) × IsDoneRun kind net events ended

  -- the events of a run that were done
  pub done_of : (es : List Event) (net ended : Network A) → ◌≡◌ {A = Outcome (Network A)} (run_events (network_apply kind) net es) (Ok tt, ended) → DoneRun net ended
  done_of [] net ended is = ([], sym (ap (λ (z : Outcome (Network A)). z.1) is))
  done_of (e ∷ es) net ended is = on (network_apply kind net e).0 (network_apply kind net e).1 refl (λ rest. done_of es (network_apply kind net e).1 ended rest) is
    where
      on : (answer : Result Reply EventFault) (next : Network A) → ◌≡◌ {A = Applied (Network A)} (answer, next) (network_apply kind net e) →
          (◌≡◌ {A = Outcome (Network A)} (run_events (network_apply kind) next es) (Ok tt, ended) → DoneRun next ended) →
          ◌≡◌ {A = Outcome (Network A)} (unless_fault answer next (λ n. run_events (network_apply kind) n es)) (Ok tt, ended) → DoneRun net ended
      on (Err f) next due later rest = let told : ◌≡◌ {A = Result (Unit {0}) EventFault} (Err f) (Ok tt) = ap (λ (z : Outcome (Network A)). z.0) rest in absurd (cc)
      on (Ok r) next due later rest = by_ready (is_ready r) refl (later rest)
        where
          by_ready : (b : Bool) → is_ready r ≡ b → DoneRun next ended → DoneRun net ended
          by_ready true ready found = ((e, r) ∷ found.0, (next, due, ready, found.1))
          by_ready false ready found = subst (λ n. DoneRun n ended) (undone_leaves kind net next e r ready (inl due)) found
