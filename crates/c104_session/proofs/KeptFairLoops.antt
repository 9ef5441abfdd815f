-- Fair rounds of which something is kept in a loop: a round as it is kept, and how the loop ends, as `KeptLoops` tells of others.
use Rattle.{c104_deadlock.proofs.RecordedRounds.starts_stay, c104_event.specs.declared.{events.Event.Event, faults.EventFault.EventFault}}
use Rattle.c104_net.specs.MeteredRecords.{MeteredRecord, at_meter, record_metered}
use Rattle.{c104_node.specs.declared.tagged.TaggedToken.TaggedToken, c104_run.proofs.{FairRecords.fair_plain, FairRuns.fair_from}}
use Rattle.c104_run.{proofs.{LaterWords.words_after, RoundRuns.{run_from, run_seen}}, specs.EventRuns.{EventsEnd, Outcome, run_events}}
use Rattle.c104_run.specs.{FairRounds.{InTurn, fair_events, fair_round, fairly, in_turn}, HandedWords.words_behind, Meters.Sees}
use Rattle.c104_run.specs.{NetRecords.NetRecord, RecordedRuns.record_apply, RoundParts.PartEnds, declared.turns.SwitchTurns.SwitchTurns}
use Rattle.{c104_run.specs.declared.words.Words.Words, c104_session.proofs.{FairLeavings.fairly_left, KeptFairRounds.FairGoing}}
use Rattle.c104_session.proofs.KeptFairRounds.{fair_fault_counts, fair_fault_ends, fair_idle_counts, fair_idle_ends, fair_runs}
use Rattle.c104_session.{proofs.{KeptFairRounds.goes_on_fairly, RoundLeavings.parted}, specs.{Driven.DoesFairly, Keepers.Keeping}}
use Rattle.{c104_session.specs.{Keepers.{KeepsFairRound, fair_rounds_kept}, Leavings.LeavesFairly}, std.proofs.Common.{Bool, Err, List, Ok}}
use Rattle.std.proofs.Common.{Result, [], ap, append-nil, arith, false, inl, inr, length, refl, suc, sym, true, ℕ, ◌++◌, ◌+◌, ◌-◌, ◌<◌, ◌∙◌}
use Rattle.std.proofs.Common.{◌∷◌, ◌≡◌, ◌⊎◌}

module _ {M : Type 0} (sees : Sees M TaggedToken) (keeps : Keeping M) where
  same_fault : (f : EventFault) → ◌≡◌ {A = Result (Unit {0}) EventFault} (Err f) (Err EventFault.NoMemory) → f ≡ EventFault.NoMemory
  same_fault f is = cc

  abbrev seen : InTurn (MeteredRecord M) → InTurn NetRecord
  seen x = in_turn x.state.net x.turns

  -- a round that was told of
  module _ (words : Words) (net after : NetRecord) (turns behind : List SwitchTurns) (c : M) where
    abbrev begun : InTurn (MeteredRecord M)
    begun = in_turn (at_meter net (keeps.begun net c)) turns

    abbrev now : List Event
    now = fair_round words turns net.network.plan

    abbrev pub FairTold : Result Bool EventFault → M → Type 0
    FairTold result e = PartEnds (fairly (record_metered sees)) begun now result (in_turn (at_meter after e) behind)

    -- it began not, or stopped at a fault, or it is done
    pub fair_unbegun : (d : M) → KeepsFairRound sees keeps words net turns c (Err EventFault.NoMemory) net turns d
    fair_unbegun d = inr (refl, ([], fair_events record_apply words net.network.plan 1 (in_turn net turns), refl, refl))

    front_left : (d : M) (front : List Event) → run_events (fairly (record_metered sees)) begun front ≡ (Ok tt, in_turn (at_meter after d) behind)
        → in_turn after behind ≡ (run_events (fairly record_apply) (in_turn net turns) front).1
    front_left d front stands =
        ap (λ (o : Outcome (InTurn (MeteredRecord M))). seen o.1) (sym stands)
        ∙ ap (λ (o : Outcome (InTurn NetRecord)). o.1)
        (run_seen (fairly (record_metered sees)) (fairly record_apply) seen (λ x e. refl) front begun)

    pub fair_halted : (f : EventFault) (d : M) → FairTold (Err f) d → KeepsFairRound sees keeps words net turns c (Err f) after behind d
    fair_halted f d told = by_end told.ends
      where
        by_end : EventsEnd (fairly (record_metered sees)) begun now (Err f) (in_turn (at_meter after d) behind)
            → KeepsFairRound sees keeps words net turns c (Err f) after behind d
        by_end (inl due) = inl (sym due)
        by_end (inr short) = inr (
          same_fault f short.refused,
          (short.front, short.event ∷ short.rest, append-nil now ∙ short.parts, front_left d short.front short.stands),
        )

  -- the loop goes on, or ends
  module _ (words : Words) (start : NetRecord) (first : List SwitchTurns) (begun : M) (count i : ℕ) (handed : Words) (net after : NetRecord)
      (turns behind : List SwitchTurns) (c d : M) (going : FairGoing sees keeps words start first begun count i handed net turns c) (further : i < count) where
    abbrev Start : InTurn NetRecord
    Start = in_turn start first

    abbrev Mid : InTurn NetRecord
    Mid = in_turn net turns

    ends_due : (result : Result (Unit {0}) EventFault)
        → EventsEnd (fairly record_apply) Start (fair_events record_apply words start.network.plan count Start) result (in_turn after behind)
        → DoesFairly words start first count result after behind
    ends_due result ends = search arith

    abbrev Halted : EventFault → Type 0
    Halted f = KeepsFairRound sees keeps handed net turns c (Err f) after behind d

    pub fair_halted_due : (f : EventFault) → Halted f → DoesFairly words start first count (Err f) after behind
    fair_halted_due f (inl is) = ends_due (Err f) (fair_fault_ends sees keeps words start first begun count i handed net after turns behind c d going further f is)
    fair_halted_due f (inr short) = inr (ap Err short.0)

    -- a round that stopped after some of its events, behind those before it
    abbrev before : List Event
    before = fair_events record_apply words start.network.plan i Start

    abbrev next_words : Words
    next_words = words_after words (length start.network.plan.switches) i

    abbrev next_round : List Event
    next_round = fair_round next_words turns start.network.plan

    abbrev more : List Event
    more = fair_events record_apply (words_behind next_words (length start.network.plan.switches)) start.network.plan (count - suc i) (run_events (fairly record_apply) Mid next_round).1

    later_left : LeavesFairly handed net turns 1 after behind → LeavesFairly words start first count after behind
    later_left left =
        let one : next_round ≡ left.0 ++ left.1 =
        sym (append-nil next_round) ∙ ap (λ (w : Words). fair_events record_apply w start.network.plan 1 Mid) (sym going.next)
        ∙ ap (λ p. fair_events record_apply handed p 1 Mid) (sym going.same) ∙ left.2 in (
          before ++ left.0,
          left.1 ++ more,
          fair_from record_apply start.network.plan words i count Start Mid further going.run ∙ ap (λ es. before ++ (es ++ more)) one
              ∙ parted before left.0 left.1 more,
          left.3 ∙ ap (λ (o : Outcome (InTurn NetRecord)). o.1) (sym (run_from (fairly record_apply) Start Mid before left.0 going.run)),
        )

    pub fair_halted_left : (f : EventFault) → Halted f → LeavesFairly words start first count after behind
    fair_halted_left f (inl is) =
        fairly_left words start first count (Err f) after behind
        (fair_fault_ends sees keeps words start first begun count i handed net after turns behind c d going further f is)
    fair_halted_left f (inr short) = later_left short.1

    pub fair_halted_kept : (f : EventFault) → Halted f
        → (d ≡ fair_rounds_kept sees keeps words count (in_turn (at_meter start begun) first)) ⊎ (◌≡◌ {A = Result (Unit {0}) EventFault} (Err f) (Err EventFault.NoMemory))
    fair_halted_kept f (inl is) = inl (fair_fault_counts sees keeps words start first begun count i handed net after turns behind c d going further f is)
    fair_halted_kept f (inr short) = inr (ap Err short.0)

    -- a round in which nothing was done is the last
    module _ (idle : KeepsFairRound sees keeps handed net turns c (Ok false) after behind d) where
      idle_run : EventsEnd (fairly record_apply) Start (fair_events record_apply words start.network.plan count Start) (Ok tt) (in_turn after behind)
      idle_run = fair_idle_ends sees keeps words start first begun count i handed net after turns behind c d going further idle

      pub fair_idle_due : DoesFairly words start first count (Ok tt) after behind
      fair_idle_due = ends_due (Ok tt) idle_run

      pub fair_idle_left : LeavesFairly words start first count after behind
      fair_idle_left = fairly_left words start first count (Ok tt) after behind idle_run

      pub fair_idle_passed : keeps.passed d (count - (i + 1)) ≡ fair_rounds_kept sees keeps words count (in_turn (at_meter start begun) first)
      fair_idle_passed = fair_idle_counts sees keeps words start first begun count i handed net after turns behind c d going further idle

    pub next_fair_going : KeepsFairRound sees keeps handed net turns c (Ok true) after behind d
        → FairGoing sees keeps words start first begun count (i + 1) (words_behind handed (length after.network.plan.switches)) after behind d
    next_fair_going came =
        let run = fair_runs sees keeps words start first begun count i handed net after turns behind c d going further true came in
        goes_on_fairly sees keeps words start first begun count i handed net after turns behind c d going further
        (starts_stay net after (fair_round handed turns net.network.plan) (Ok tt)
        (fair_plain record_apply Mid (in_turn after behind) (fair_round handed turns net.network.plan) (Ok tt) (inl (sym run)))).0 came
