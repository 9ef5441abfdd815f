-- A run of events of which none was done: each is answered with NotReady where the run began, and so is each event of a round
-- with any other words. That none was done is told by the count of events, which each that is done makes larger.
use Rattle.{c104_event.specs.declared.{events.Event.Event, faults.EventFault.EventFault}, c104_plan.specs.Plans.Plan}
use Rattle.c104_run.proofs.{HandedWords.{event_word, worded_again}, LaterWords.words_after, RoundRuns.{Applied, ends_keep, run_from}}
use Rattle.c104_run.proofs.{RoundRuns.undone_left, StageSteps.unready_stage, UndoneEvents.undone_deeds, WordedRounds.words_from}
use Rattle.c104_run.specs.{EventRuns.{EventsEnd, Outcome, run_events, unless_fault}, HandedWords.{Words, all_worded, round_with}}
use Rattle.c104_run.specs.{HandedWords.{rounds_with, worded, words_behind}, Meters.{Metered, Sees, metered_apply}, NetRecords.NetRecord}
use Rattle.c104_run.specs.{NetRecords.{is_done, largest_ticket, ticket_after}, Network.network_apply, RecordedRuns.record_apply}
use Rattle.c104_run.specs.{RecordedRuns.{record_at, record_stage}, Rounds.round, Stages.{Stage, stage_apply}}
use Rattle.{c104_switch.specs.{Actions.{Reply, is_ready}, declared.actions.ReplyOf.ReplyOf}, c104_token.specs.Kinds.{Kind, plain_kind}}
use Rattle.std.proofs.Common.{Bool, Err, List, Ok, Result, [], ap, arith, false, inl, inr, length, refl, subst, suc, sym, true, zero, ℕ}
use Rattle.std.proofs.Common.{◌++◌, ◌+◌, ◌-◌, ◌<◌, ◌∙◌, ◌∷◌, ◌≡◌, ◌≤◌}

-- what isn't done and no fault isn't ready
not_ready : (r : Reply) → is_ready r ≡ false → r ≡ ReplyOf.NotReady
not_ready r is = search arith

-- states in which events are counted, and an event that isn't done changes nothing, and isn't ready with another word
pub record CountsEvents (S : Type 0) (apply : S → Event → Applied S) (count : S → ℕ) : Type 0 where
  pub counts : (s : S) (e : Event) → count (apply s e).1 ≡ ticket_after (count s) (is_done (apply s e).0)
  pub stays : (s : S) (e : Event) → is_done (apply s e).0 ≡ false → (apply s e).1 ≡ s
  pub rewords : (s : S) (w : Words) (e : Event) → apply s e ≡ (Ok ReplyOf.NotReady, s) → apply s (worded w e) ≡ (Ok ReplyOf.NotReady, s)

module _ {S : Type 0} (apply : S → Event → Applied S) (count : S → ℕ) (law : CountsEvents S apply count) where
  -- each of some events is passed over in a state
  abbrev pub Passes : S → List Event → Type 0
  Passes s [] = Unit {0}
  Passes s (e ∷ events) = (apply s e ≡ (Ok ReplyOf.NotReady, s)) × Passes s events

  pub passes_run : (s : S) (events : List Event) → Passes s events → run_events apply s events ≡ (Ok tt, s)
  passes_run s [] each = refl
  passes_run s (e ∷ events) each = ap (λ (r : Applied S). unless_fault r.0 r.1 (λ next. run_events apply next events)) each.0 ∙ passes_run s events each.1

  -- whatever their words
  pub passes_worded : (s : S) (v w : Words) (events : List Event) → Passes s (all_worded v events) → Passes s (all_worded w events)
  passes_worded s v w [] each = each
  passes_worded s v w (e ∷ events) each =
      (subst (λ x. apply s x ≡ (Ok ReplyOf.NotReady, s)) (worded_again w v e) (law.rewords s w (worded v e) each.0), passes_worded s v w events each.1)

  rounds_pass : (s : S) (plan : Plan) (v w : Words) (n : ℕ) → Passes s (round_with v plan) → run_events apply s (rounds_with w plan n) ≡ (Ok tt, s)
  rounds_pass s plan v w zero each = refl
  rounds_pass s plan v w (suc n) each =
      let next : Words = words_behind w (length plan.switches) in
      run_from apply s s (round_with w plan) (rounds_with next plan n) (passes_run s (round_with w plan) (passes_worded s v w (round plan) each))
      ∙ rounds_pass s plan v next n each

  -- the count doesn't fall
  abbrev IsAfter : ℕ → S → Type 0
  IsAfter n s = (n ≤ count s) × (count s ≤ largest_ticket)

  one_after : (n m : ℕ) (done : Bool) → (n ≤ m) × (m ≤ largest_ticket) → (n ≤ ticket_after m done) × (ticket_after m done ≤ largest_ticket)
  one_after n m done is = search arith

  event_after : (n : ℕ) (s : S) (e : Event) → IsAfter n s → IsAfter n (apply s e).1
  event_after n s e is = subst (λ m. (n ≤ m) × (m ≤ largest_ticket)) (sym (law.counts s e)) (one_after n (count s) (is_done (apply s e).0) is)

  run_after : (n : ℕ) (s after : S) (events : List Event) → IsAfter n s → run_events apply s events ≡ (Ok tt, after) → n ≤ count after
  run_after n s after events is run = (ends_keep apply (IsAfter n) (event_after n) s after events (Ok tt) is (inl (sym run))).0

  more_done : (n m : ℕ) → n < largest_ticket → m ≡ ticket_after n true → (n + 1 ≤ m) × (m ≤ largest_ticket)
  more_done n m few is = (omega (arith, few, is), omega (arith, few, is))

  no_end : (f : EventFault) (s after : S) → ◌≡◌ {A = Outcome S} (Err f, s) (Ok tt, after) → ⊥
  no_end f s after is = cc (ap (λ (o : Outcome S). o.0) is)

  -- where no more were done behind a run than before it, each was passed over
  abbrev PassesAll : List Event → S → Type 0
  PassesAll events after = (s : S) → count s < largest_ticket → run_events apply s events ≡ (Ok tt, after) → count after ≤ count s → Passes s events × (after ≡ s)

  module _ (e : Event) (events : List Event) (s after : S) (few : count s < largest_ticket) (none : count after ≤ count s) (rest : PassesAll events after) where
    abbrev next : S
    next = (apply s e).1

    by_done : (r : Reply) → (apply s e).0 ≡ Ok r → (done : Bool) → is_ready r ≡ done → run_events apply next events ≡ (Ok tt, after) → Passes s (e ∷ events) × (after ≡ s)
    by_done r is true ready more =
        let grown = more_done (count s) (count next) few (law.counts s e ∙ ap (λ answer. ticket_after (count s) (is_done answer)) is ∙ ap (ticket_after (count s)) ready) in
        let least = run_after (count s + 1) next after events grown more in
        absurd (omega (arith, least, none))
    by_done r is false unready more =
        let same : next ≡ s = law.stays s e (ap is_done is ∙ unready) in
        let left = rest s few (ap (λ n. run_events apply n events) (sym same) ∙ more) none in
        let here : apply s e ≡ (Ok ReplyOf.NotReady, s) = ap (λ answer. (answer, next)) (is ∙ ap Ok (not_ready r unready)) ∙ ap (λ n. (Ok ReplyOf.NotReady, n)) same in
        ((here, left.0), left.1)

    by_answer : (answer : Result Reply EventFault) → (apply s e).0 ≡ answer → unless_fault answer next (λ n. run_events apply n events) ≡ (Ok tt, after) → Passes s (e ∷ events) × (after ≡ s)
    by_answer (Ok r) is more = by_done r is (is_ready r) refl more
    by_answer (Err f) is more = absurd (no_end f next after more)

  pub none_done : (events : List Event) (after : S) → PassesAll events after
  none_done [] after s few run none = (tt, ap (λ (o : Outcome S). o.1) (sym run))
  none_done (e ∷ events) after s few run none = by_answer e events s after few none (none_done events after) (apply s e).0 refl run

  -- rounds of which one did nothing, and the count tells: nor do those behind it
  pub words_idle : (plan : Plan) (words : Words) (start mid after : S) (i n : ℕ) → i < n → run_events apply start (rounds_with words plan i) ≡ (Ok tt, mid)
      → EventsEnd apply mid (round_with (words_after words (length plan.switches) i) plan) (Ok tt) after → count mid < largest_ticket → count after ≤ count mid
      → run_events apply start (rounds_with words plan n) ≡ (Ok tt, after)
  words_idle plan words start mid after i n further front ends few none =
      let handed : Words = words_after words (length plan.switches) i in
      let next : Words = words_behind handed (length plan.switches) in
      let more : List Event = rounds_with next plan (n - suc i) in
      elim ends [
        | inl due ↦
            let idle = none_done (round_with handed plan) after mid few (sym due) none in
            ap (run_events apply start) (words_from plan words i n further) ∙ run_from apply start mid (rounds_with words plan i) (round_with handed plan ++ more) front
            ∙ run_from apply mid after (round_with handed plan) more (sym due)
            ∙ ap (λ s. run_events apply s more) idle.1 ∙ rounds_pass mid plan handed next (n - suc i) idle.0 ∙ ap (λ s. (Ok tt, s)) (sym idle.1)
        | inr short ↦ absurd (cc short.refused)
      ]

-- stages count their events
module _ {A : Type 0} (kind : Kind A) (keeps : Bool) where
  abbrev Due : Type 0
  Due = Applied (Stage A)

  open_due : (s : Stage A) (e : Event) → stage_apply kind keeps s e ≡ (Ok ReplyOf.NotReady, s) → network_apply kind s.network e ≡ (Ok ReplyOf.NotReady, s.network)
  open_due s e is = search (arith, undone_left)

  stage_stays : (s : Stage A) (e : Event) → is_done (stage_apply kind keeps s e).0 ≡ false → (stage_apply kind keeps s e).1 ≡ s
  stage_stays s e undone = search (arith, undone_left, undone_deeds)

  stage_rewords : (s : Stage A) (w : Words) (e : Event) → stage_apply kind keeps s e ≡ (Ok ReplyOf.NotReady, s) → stage_apply kind keeps s (worded w e) ≡ (Ok ReplyOf.NotReady, s)
  stage_rewords s w e is =
      elim (unready_stage kind keeps s (worded w e) (event_word kind s.network w e (open_due s e is))) [
        | inl due ↦ sym due
        | inr refused ↦ absurd (cc refused.0)
      ]

  pub stages_count : CountsEvents (Stage A) (stage_apply kind keeps) (λ s. s.count)
  stages_count = record { counts = λ s e. refl; stays = stage_stays; rewords = stage_rewords }

  -- with a meter
  module _ {M : Type 0} (sees : Sees M A) where
    metered_stays : (x : Metered A M) (e : Event) → is_done (metered_apply kind keeps sees x e).0 ≡ false → (metered_apply kind keeps sees x e).1 ≡ x
    metered_stays x e undone = search (arith, stage_stays)

    metered_rewords : (x : Metered A M) (w : Words) (e : Event) → metered_apply kind keeps sees x e ≡ (Ok ReplyOf.NotReady, x) → metered_apply kind keeps sees x (worded w e) ≡ (Ok ReplyOf.NotReady, x)
    metered_rewords x w e is = search (arith, stage_rewords)

    pub meters_count : CountsEvents (Metered A M) (metered_apply kind keeps sees) (λ x. x.stage.count)
    meters_count = record { counts = λ x e. refl; stays = metered_stays; rewords = metered_rewords }

-- so do networks with their records
record_stays : (r : NetRecord) (e : Event) → is_done (record_apply r e).0 ≡ false → (record_apply r e).1 ≡ r
record_stays r e undone = ap (record_at r.starts) (stage_stays plain_kind true (record_stage r) e undone)

record_rewords : (r : NetRecord) (w : Words) (e : Event) → record_apply r e ≡ (Ok ReplyOf.NotReady, r) → record_apply r (worded w e) ≡ (Ok ReplyOf.NotReady, r)
record_rewords r w e is = search (arith, stage_rewords)

pub records_count : CountsEvents NetRecord record_apply (λ r. r.count)
records_count = record { counts = λ r e. refl; stays = record_stays; rewords = record_rewords }
