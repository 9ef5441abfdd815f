-- A round that is done unless the network stands still: then it would change nothing, as no event of it is ready. Whether it
-- did anything is told by the count of events.
use Rattle.{c104_event.specs.declared.{events.Event.Event, faults.EventFault.EventFault}, c104_net.specs.MeteredRecords.MeteredRecord}
use Rattle.{c104_net.specs.MeteredRecords.at_meter, c104_node.specs.declared.tagged.TaggedToken.TaggedToken}
use Rattle.{c104_plan.{proofs.RangeLists.all_of_each, specs.Plans.IsPlan}, c104_rows.proofs.StillNets.{each_still, still_where}}
use Rattle.c104_rows.specs.{Recording.recording, Standing.is_still, declared.recording.RunRecord.RunRecord}
use Rattle.c104_run.proofs.{IdleRounds.{Passes, none_done, passes_run, records_count}, RecordSteps.ticket_left, RoundRuns.Applied}
use Rattle.c104_run.{proofs.{RoundRuns.undone_left, StageSteps.unready_stage, WordedRounds.zero_round}, specs.EventRuns.EventsEnd}
use Rattle.c104_run.specs.{EventRuns.{Outcome, run_events}, HandedWords.{round_with, rounds_with}, Meters.Sees, NetRecords.IsNetRecord}
use Rattle.c104_run.specs.{NetRecords.{NetRecord, is_done, largest_ticket, ticket_after}, Network.{Network, network_apply}}
use Rattle.c104_run.specs.{RecordedRuns.{record_apply, record_at, record_stage}, Rounds.round, Stages.{Stage, stage_full}}
use Rattle.{c104_run.specs.{Standstill.IsUnready, declared.words.Words.Words}, c104_session.proofs.KeptRounds.{few_done, record_of}}
use Rattle.c104_session.{proofs.Leavings.rounds_left, specs.{Driven.keeps_nothing, FurtherRounds.{DoesFurther, DrivesFurther}}}
use Rattle.c104_session.specs.{FurtherRounds.KeepsFurther, Keepers.{Keeping, KeepsRound, kept_on, round_kept, rounds_kept}}
use Rattle.c104_session.specs.{Leavings.LeavesRounds, Recorded.{record_keeps, record_kept}, Settling.{ChangesNothing, after_round}}
use Rattle.{c104_switch.specs.declared.actions.ReplyOf.ReplyOf, c104_token.specs.{Kinds.plain_kind, declared.tokens.Token.Token}}
use Rattle.std.proofs.Common.{Bool, Err, List, Ok, Result, [], ap, append-nil, arith, false, if◌then◌else◌, inl, inr, nat_lt, refl, subst}
use Rattle.std.proofs.{Common.{suc, sym, true, ℕ, ◌&&◌, ◌++◌, ◌+◌, ◌<◌, ◌∙◌, ◌∷◌, ◌≡◌, ◌≤◌, ◌⊎◌}, lemmas.Bool.Decides.nat_tests}
use Rattle.std.specs.List.{AllByRecursion}

-- what is due, where no trace is full
open_due : (test : Bool) (net : Network Token) (due : Applied (Network Token))
    → (if◌then◌else◌ {A = Applied (Network Token)} test (Err EventFault.TraceFull, net) due).0 ≡ Ok ReplyOf.NotReady
    → due.0 ≡ Ok ReplyOf.NotReady
open_due test net due is = search arith

same_fault : (f : EventFault) → ◌≡◌ {A = Result (Unit {0}) EventFault} (Err f) (Err EventFault.NoMemory) → f ≡ EventFault.NoMemory
same_fault f is = cc

module _ (net : NetRecord) where
  abbrev pub Pass : List Event → Type 0
  Pass es = Passes record_apply (λ (r : NetRecord). r.count) records_count net es

  abbrev Unready : Event → Type 0
  Unready e = IsUnready plain_kind net.network e

  -- an event that isn't ready is passed over, and no other is
  idle : (e : Event) → Unready e
      → ◌≡◌ {A = Applied (Network Token)} (network_apply plain_kind net.network e) (Ok ReplyOf.NotReady, net.network)
  idle e is =
      ap (λ o. (o, (network_apply plain_kind net.network e).1)) is
      ∙ ap (λ (n : Network Token). (Ok ReplyOf.NotReady, n)) (undone_left plain_kind net.network e (ap is_done is))

  pub event_passes : (e : Event) → Unready e → record_apply net e ≡ (Ok ReplyOf.NotReady, net)
  event_passes e is =
      elim (unready_stage plain_kind true (record_stage net) e (idle e is)) [
        | inl due ↦ ap (λ (z : Applied (Stage Token)). (z.0, record_at net.starts z.1)) (sym due)
        | inr refused ↦ absurd (cc refused.0)
      ]

  event_unready : (e : Event) → record_apply net e ≡ (Ok ReplyOf.NotReady, net) → Unready e
  event_unready e is =
      open_due (stage_full true (record_stage net) e && is_done (network_apply plain_kind net.network e).0) net.network
      (network_apply plain_kind net.network e) (ap (λ (z : Applied NetRecord). z.0) is)

  passes_of : (es : List Event) → AllByRecursion Unready es → Pass es
  passes_of [] all = tt
  passes_of (e ∷ es) all = (event_passes e all.0, passes_of es all.1)

  unready_of : (es : List Event) → Pass es → AllByRecursion Unready es
  unready_of [] all = tt
  unready_of (e ∷ es) all = (event_unready e all.0, unready_of es all.1)

  -- some first events, and the next one
  passes_apart : (front : List Event) (e : Event) (rest : List Event) → Pass (front ++ e ∷ rest)
      → Pass front × (record_apply net e ≡ (Ok ReplyOf.NotReady, net))
  passes_apart [] e rest all = (tt, all.0)
  passes_apart (f ∷ front) e rest all = let later = passes_apart front e rest all.1 in ((all.0, later.0), later.1)

  abbrev events : List Event
  events = round_with Words.Zero net.network.plan

  still_passes : is_still net.network ≡ true → Pass events
  still_passes is = subst Pass (sym (zero_round net.network.plan)) (passes_of (round net.network.plan) (each_still net.network is))

  passes_still : Pass events → is_still net.network ≡ true
  passes_still all =
      (still_where net.network).1
      (all_of_each Unready (round net.network.plan) (unready_of (round net.network.plan) (subst Pass (zero_round net.network.plan) all)))

  -- a round where the network stands still
  pub still_run : is_still net.network ≡ true → after_round net ≡ (Ok tt, net)
  still_run is = passes_run record_apply (λ (r : NetRecord). r.count) records_count net events (still_passes is)

  -- a round of which no event was done
  pub idle_still : (after : NetRecord) → net.count < largest_ticket → after_round net ≡ (Ok tt, after) → after.count ≤ net.count
      → (is_still net.network ≡ true) × (after ≡ net)
  idle_still after few run none =
      let left = none_done record_apply (λ (r : NetRecord). r.count) records_count events after net few run none in
      (passes_still left.0, left.1)

  pub few_left : IsPlan net.network.plan → IsNetRecord net → net.count < largest_ticket
  few_left is_plan kept =
      let left : net.count + 1 ≡ ticket_after net.count true = ticket_left net net is_plan refl kept (Event.Drain 0) in
      omega (arith, left)

  -- a round that changes nothing
  pub unchanged_still : net.count < largest_ticket → ChangesNothing net → is_still net.network ≡ true
  unchanged_still few run = (idle_still net few run (omega arith)).0

  pub not_still : (is_still net.network ≡ true → ⊥) → is_still net.network ≡ false
  not_still moves = by_test (is_still net.network) refl
    where
      by_test : (b : Bool) → is_still net.network ≡ b → b ≡ false
      by_test true is = absurd (moves is)
      by_test false is = refl

  -- a driver that keeps nothing does it
  module _ (after : NetRecord) where
    abbrev pub Ends : Result (Unit {0}) EventFault → Type 0
    Ends result = EventsEnd record_apply net (rounds_with Words.Zero net.network.plan 1) result after

    one_run : (result : Result (Unit {0}) EventFault)
        → ◌≡◌ {A = Outcome NetRecord} (result, after) (run_events record_apply net (rounds_with Words.Zero net.network.plan 1))
        → after_round net ≡ (result, after)
    one_run result due = ap (run_events record_apply net) (sym (append-nil events)) ∙ sym due

    grown : net.count < after.count → after_round net ≡ (Ok tt, after) → is_still net.network ≡ true → ⊥
    grown more run is =
        let same : net ≡ after = ap (λ (o : Outcome NetRecord). o.1) (sym (still_run is) ∙ run) in
        let counts : net.count ≡ after.count = ap (λ (r : NetRecord). r.count) same in
        omega (arith, more, counts)

    by_count : IsPlan net.network.plan → IsNetRecord net → after_round net ≡ (Ok tt, after) → (b : Bool)
        → b ≡ nat_lt net.count after.count → DoesFurther net (Ok b) after
    by_count is_plan kept run true later =
        let is : nat_lt net.count after.count ≡ true = sym later in
        let more : net.count < after.count = grind (arith, nat_tests, is) in
        (not_still (grown more run), run)
    by_count is_plan kept run false later =
        let is : nat_lt net.count after.count ≡ false = sym later in
        let none : after.count ≤ net.count = grind (arith, nat_tests, is) in
        idle_still after (few_left is_plan kept) run none

    pub plain_done : IsPlan net.network.plan → IsNetRecord net → Ends (Ok tt) → (b : Bool) → b ≡ nat_lt net.count after.count
        → DoesFurther net (Ok b) after
    plain_done is_plan kept (inl due) b later = by_count is_plan kept (one_run (Ok tt) due) b later
    plain_done is_plan kept (inr short) b later = absurd (cc short.refused)

    refused_moved : (f : EventFault) → Ends (Err f) → is_still net.network ≡ true → ⊥
    refused_moved f (inl due) is =
        let both : ◌≡◌ {A = Outcome NetRecord} (Ok tt, net) (Err f, after) = sym (still_run is) ∙ one_run (Err f) due in
        cc (ap (λ (o : Outcome NetRecord). o.0) both)
    refused_moved f (inr short) is =
        let parts =
        passes_apart short.front short.event short.rest (subst Pass (sym (append-nil events) ∙ short.parts) (still_passes is)) in
        let run : ◌≡◌ {A = Outcome NetRecord} (Ok tt, net) (Ok tt, after) =
        sym (passes_run record_apply (λ (r : NetRecord). r.count) records_count net short.front parts.0) ∙ short.stands in
        let same : net ≡ after = ap (λ (o : Outcome NetRecord). o.1) run in
        let wanted : is_done (record_apply net short.event).0 ≡ true =
        subst (λ r. is_done (record_apply r short.event).0 ≡ true) (sym same) short.wanted in
        let none : is_done (record_apply net short.event).0 ≡ false = ap (λ (z : Applied NetRecord). is_done z.0) parts.1 in
        cc (sym wanted ∙ none)

    pub plain_halted : (f : EventFault) → Ends (Err f) → DoesFurther net (Err f) after
    plain_halted f ends = (not_still (refused_moved f ends), by_end ends)
      where
        by_end : Ends (Err f) → (after_round net ≡ (Err f, after)) ⊎ ((f ≡ EventFault.NoMemory) × LeavesRounds Words.Zero net 1 after)
        by_end (inl due) = inl (one_run (Err f) due)
        by_end (inr short) = inr (same_fault f short.refused, rounds_left Words.Zero net 1 (Err f) after (inr short))

    pub nothing_driven : {D : Type 0} (d : D) (b : Bool) → DrivesFurther (keeps_nothing {D = D}) d net (Ok b) d after
    nothing_driven d true = (refl, λ n. refl)
    nothing_driven d false = (refl, refl)

    pub nothing_refused : {D : Type 0} (d : D) (f : EventFault) → DrivesFurther (keeps_nothing {D = D}) d net (Err f) d after
    nothing_refused d f = inl (λ n. refl)

-- a keeper does it
module _ {M : Type 0} (sees : Sees M TaggedToken) (keeps : Keeping M) (net after : NetRecord) (c d : M)
    (moves : is_still net.network ≡ false) where
  abbrev pub Kept : Result Bool EventFault → Type 0
  Kept result = KeepsRound sees keeps Words.Zero net c result after d

  run_of : (result : Result (Unit {0}) EventFault) (e : M)
      → round_kept sees keeps Words.Zero (at_meter net c) ≡ (result, at_meter after e)
      → after_round net ≡ (result, after)
  run_of result e is = sym (record_of sees keeps Words.Zero net c) ∙ ap (λ (o : Outcome (MeteredRecord M)). (o.0, o.1.net)) is

  idle_not : {P : Type 0} → Kept (Ok false) → P
  idle_not kept =
      let few = few_done net.count after.count (sym kept.2) in
      let still = (idle_still net after few.0 (run_of (Ok tt) kept.0 kept.1) few.1).0 in
      absurd (cc (sym still ∙ moves))

  pub kept_does : (result : Result Bool EventFault) → Kept result → DoesFurther net result after
  kept_does (Ok true) kept = (moves, run_of (Ok tt) kept.0 kept.1)
  kept_does (Ok false) kept = idle_not kept
  kept_does (Err f) (inl is) = (moves, inl (run_of (Err f) d is))
  kept_does (Err f) (inr short) = (moves, inr short)

  -- the rounds behind it
  abbrev by_later : M → ℕ → Bool → M
  by_later e n later =
      if later then rounds_kept sees keeps Words.Zero n (at_meter after (keeps.ended e true)) else keeps.passed (keeps.ended e false) n

  next_kept : Kept (Ok true) → (n : ℕ)
      → rounds_kept sees keeps Words.Zero (suc n) (at_meter net c) ≡ rounds_kept sees keeps Words.Zero n (at_meter after d)
  next_kept kept n =
      ap (λ (o : Outcome (MeteredRecord M)). kept_on sees keeps n (rounds_kept sees keeps Words.Zero n) net o) kept.1
      ∙ ap (by_later kept.0 n) (sym kept.2)
      ∙ ap (λ e. rounds_kept sees keeps Words.Zero n (at_meter after e)) (sym kept.3)

  pub kept_further : (result : Result Bool EventFault) → Kept result → KeepsFurther sees keeps net c result after d
  kept_further (Ok true) kept = (next_kept kept 0, next_kept kept)
  kept_further (Ok false) kept = idle_not kept
  kept_further (Err f) (inl is) =
      inl (λ n. ap (λ (o : Outcome (MeteredRecord M)). kept_on sees keeps n (rounds_kept sees keeps Words.Zero n) net o) is)
  kept_further (Err f) (inr short) = inr short.0

-- so does what is kept of a run for its tables
pub recorded_further : (net after : NetRecord) (r s : RunRecord) (result : Result Bool EventFault)
    → KeepsFurther recording record_keeps net r result after s → DrivesFurther record_kept r net result s after
recorded_further net after r s (Ok true) kept = kept
recorded_further net after r s (Ok false) kept = (refl, kept)
recorded_further net after r s (Err f) kept = kept
