-- Rounds of which something is kept in a loop: a round as it is kept, and how the loop ends.
use Rattle.{c104_deadlock.proofs.RecordedRounds.starts_stay, c104_event.specs.declared.{events.Event.Event, faults.EventFault.EventFault}}
use Rattle.c104_net.specs.MeteredRecords.{MeteredRecord, at_meter, record_metered}
use Rattle.{c104_node.specs.declared.tagged.TaggedToken.TaggedToken, c104_run.{proofs.RoundRuns.run_seen, specs.EventRuns.EventsEnd}}
use Rattle.c104_run.specs.{EventRuns.{Outcome, run_events}, HandedWords.{round_with, rounds_with, words_behind}, Meters.Sees}
use Rattle.c104_run.specs.{NetRecords.NetRecord, RecordedRuns.record_apply, RoundParts.PartEnds, declared.words.Words.Words}
use Rattle.c104_session.proofs.KeptRounds.{Going, fault_counts, fault_ends, goes_on, idle_counts, idle_ends, round_runs}
use Rattle.c104_session.{proofs.{Leavings.rounds_left, RoundLeavings.later_left}, specs.{Driven.DoesRounds, Keepers.{Keeping, KeepsRound}}}
use Rattle.{c104_session.specs.{Keepers.rounds_kept, Leavings.LeavesRounds}, std.proofs.Common.{Bool, Err, List, Ok, Result, [], ap}}
use Rattle.std.proofs.Common.{append-nil, arith, false, inl, inr, length, refl, sym, true, ℕ, ◌+◌, ◌-◌, ◌<◌, ◌∙◌, ◌∷◌, ◌≡◌, ◌⊎◌}

module _ {M : Type 0} (sees : Sees M TaggedToken) (keeps : Keeping M) where
  same_fault : (f : EventFault) → ◌≡◌ {A = Result (Unit {0}) EventFault} (Err f) (Err EventFault.NoMemory) → f ≡ EventFault.NoMemory
  same_fault f is = cc

  -- a round that was told of
  module _ (words : Words) (net after : NetRecord) (c : M) where
    abbrev begun : MeteredRecord M
    begun = at_meter net (keeps.begun net c)

    abbrev pub RoundTold : Result Bool EventFault → M → Type 0
    RoundTold result e = PartEnds (record_metered sees) begun (round_with words net.network.plan) result (at_meter after e)

    -- it began not, or stopped at a fault, or it is done
    pub round_unbegun : (d : M) → KeepsRound sees keeps words net c (Err EventFault.NoMemory) net d
    round_unbegun d = inr (refl, ([], rounds_with words net.network.plan 1, refl, refl))

    front_left : (d : M) (front : List Event) → run_events (record_metered sees) begun front ≡ (Ok tt, at_meter after d)
        → after ≡ (run_events record_apply net front).1
    front_left d front stands =
        ap (λ (o : Outcome (MeteredRecord M)). o.1.net) (sym stands)
        ∙ ap (λ (o : Outcome NetRecord). o.1)
        (run_seen (record_metered sees) record_apply (λ (s : MeteredRecord M). s.net) (λ s e. refl) front begun)

    pub round_halted : (f : EventFault) (d : M) → RoundTold (Err f) d → KeepsRound sees keeps words net c (Err f) after d
    round_halted f d told = by_end told.ends
      where
        by_end : EventsEnd (record_metered sees) begun (round_with words net.network.plan) (Err f) (at_meter after d)
            → KeepsRound sees keeps words net c (Err f) after d
        by_end (inl due) = inl (sym due)
        by_end (inr short) = inr (
          same_fault f short.refused,
          (
            short.front,
            short.event ∷ short.rest,
            append-nil (round_with words net.network.plan) ∙ short.parts,
            front_left d short.front short.stands,
          ),
        )

  -- the loop goes on, or ends
  module _ (words : Words) (start : NetRecord) (begun : M) (count i : ℕ) (handed : Words) (net after : NetRecord) (c d : M)
      (going : Going sees keeps words start begun count i handed net c) (further : i < count) where
    ends_due : (result : Result (Unit {0}) EventFault)
        → EventsEnd record_apply start (rounds_with words start.network.plan count) result after → DoesRounds words start count result after
    ends_due result ends = search arith

    abbrev Halted : EventFault → Type 0
    Halted f = KeepsRound sees keeps handed net c (Err f) after d

    pub halted_due : (f : EventFault) → Halted f → DoesRounds words start count (Err f) after
    halted_due f (inl is) = ends_due (Err f) (fault_ends sees keeps words start begun count i handed net after c d going further f is)
    halted_due f (inr short) = inr (ap Err short.0)

    pub halted_left : (f : EventFault) → Halted f → LeavesRounds words start count after
    halted_left f (inl is) =
        rounds_left words start count (Err f) after
        (fault_ends sees keeps words start begun count i handed net after c d going further f is)
    halted_left f (inr short) = later_left words handed start net after i count further going.run going.same going.next short.1

    pub halted_kept : (f : EventFault) → Halted f
        → (d ≡ rounds_kept sees keeps words count (at_meter start begun)) ⊎ (◌≡◌ {A = Result (Unit {0}) EventFault} (Err f) (Err EventFault.NoMemory))
    halted_kept f (inl is) = inl (fault_counts sees keeps words start begun count i handed net after c d going further f is)
    halted_kept f (inr short) = inr (ap Err short.0)

    -- a round in which nothing was done is the last
    module _ (idle : KeepsRound sees keeps handed net c (Ok false) after d) where
      idle_run : EventsEnd record_apply start (rounds_with words start.network.plan count) (Ok tt) after
      idle_run = idle_ends sees keeps words start begun count i handed net after c d going further idle

      pub idle_due : DoesRounds words start count (Ok tt) after
      idle_due = ends_due (Ok tt) idle_run

      pub idle_left : LeavesRounds words start count after
      idle_left = rounds_left words start count (Ok tt) after idle_run

      pub idle_passed : keeps.passed d (count - (i + 1)) ≡ rounds_kept sees keeps words count (at_meter start begun)
      idle_passed = idle_counts sees keeps words start begun count i handed net after c d going further idle

    pub next_going : KeepsRound sees keeps handed net c (Ok true) after d
        → Going sees keeps words start begun count (i + 1) (words_behind handed (length after.network.plan.switches)) after d
    next_going came =
        let run = round_runs sees keeps words start begun count i handed net after c d going further true came in
        goes_on sees keeps words start begun count i handed net after c d going further
        (starts_stay net after (round_with handed net.network.plan) (Ok tt) (inl (sym run))).0 came
