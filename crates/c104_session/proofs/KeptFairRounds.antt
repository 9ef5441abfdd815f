-- Fair rounds of which something is kept, one by one, as `KeptRounds` tells of others.
use Rattle.{c104_event.specs.declared.faults.EventFault.EventFault, c104_net.specs.MeteredRecords.{MeteredRecord, at_meter, record_metered}}
use Rattle.{c104_node.specs.declared.tagged.TaggedToken.TaggedToken, c104_plan.specs.Plans.Plan, c104_run.proofs.FairRuns.fair_idle}
use Rattle.c104_run.proofs.{FairRuns.{fair_refused, fair_taken}, IdleRounds.records_count, LaterWords.words_after, RoundRuns.run_seen}
use Rattle.c104_run.{proofs.WordedRounds.words_next, specs.{EventRuns.{EventsEnd, Outcome, run_events}, FairRounds.{InTurn, fair_events}}}
use Rattle.c104_run.specs.{FairRounds.{fair_round, fairly, in_turn}, HandedWords.words_behind, Meters.Sees, NetRecords.NetRecord}
use Rattle.c104_run.specs.{RecordedRuns.record_apply, declared.{turns.SwitchTurns.SwitchTurns, words.Words.Words}}
use Rattle.c104_session.{proofs.KeptRounds.few_done, specs.Keepers.{Keeping, KeepsFairRound, fair_round_kept, fair_rounds_kept}}
use Rattle.{c104_session.specs.Keepers.kept_fairly, std.proofs.Common.{Bool, Err, List, Ok, Result, ap, arith, false, if◌then◌else◌, inl}}
use Rattle.std.proofs.Common.{length, refl, suc, sym, true, ℕ, ◌+◌, ◌-◌, ◌<◌, ◌∙◌, ◌≡◌}

module _ {M : Type 0} (sees : Sees M TaggedToken) (keeps : Keeping M) where
  -- the network of a round of which something is kept goes on as by itself, and so do its turns
  abbrev seen : InTurn (MeteredRecord M) → InTurn NetRecord
  seen x = in_turn x.state.net x.turns

  abbrev FairOutcome : Type 0
  FairOutcome = Outcome (InTurn NetRecord)

  abbrev kept_of : Words → NetRecord → List SwitchTurns → M → Outcome (InTurn (MeteredRecord M))
  kept_of words net turns c = fair_round_kept sees keeps words (in_turn (at_meter net c) turns)

  record_of : (words : Words) (net : NetRecord) (turns : List SwitchTurns) (c : M)
      → ◌≡◌ {A = FairOutcome} ((kept_of words net turns c).0, seen (kept_of words net turns c).1)
      (run_events (fairly record_apply) (in_turn net turns) (fair_round words turns net.network.plan))
  record_of words net turns c =
      run_seen (fairly (record_metered sees)) (fairly record_apply) seen (λ x e. refl) (fair_round words turns net.network.plan)
      (in_turn (at_meter net (keeps.begun net c)) turns)

  -- n rounds are done, the next one is handed these words and goes by these turns, and these are left
  pub record FairGoing (words : Words) (start : NetRecord) (first : List SwitchTurns) (begun : M) (count i : ℕ) (handed : Words) (net : NetRecord)
      (turns : List SwitchTurns) (c : M) : Type 0 where
    pub run : run_events (fairly record_apply) (in_turn start first) (fair_events record_apply words start.network.plan i (in_turn start first))
        ≡ (Ok tt, in_turn net turns)
    pub same : net.network.plan ≡ start.network.plan
    pub next : handed ≡ words_after words (length start.network.plan.switches) i
    pub left : fair_rounds_kept sees keeps words count (in_turn (at_meter start begun) first)
        ≡ fair_rounds_kept sees keeps handed (count - i) (in_turn (at_meter net c) turns)

  module _ (words : Words) (start : NetRecord) (first : List SwitchTurns) (begun : M) (count i : ℕ) (handed : Words) (net after : NetRecord)
      (turns behind : List SwitchTurns) (c d : M) (going : FairGoing words start first begun count i handed net turns c) (further : i < count) where
    abbrev plan : Plan
    plan = start.network.plan

    abbrev rest : ℕ
    rest = count - (i + 1)

    abbrev later : Words
    later = words_behind handed (length net.network.plan.switches)

    abbrev Start : InTurn NetRecord
    Start = in_turn start first

    abbrev Mid : InTurn NetRecord
    Mid = in_turn net turns

    abbrev After : InTurn NetRecord
    After = in_turn after behind

    abbrev Ends : Result (Unit {0}) EventFault → Type 0
    Ends result = EventsEnd (fairly record_apply) Start (fair_events record_apply words plan count Start) result After

    -- what the next one comes to
    next_left : fair_rounds_kept sees keeps words count (in_turn (at_meter start begun) first)
        ≡ kept_fairly sees keeps rest (fair_rounds_kept sees keeps later rest) net (kept_of handed net turns c)
    next_left =
        let one : count - i ≡ suc rest = omega (arith, further) in
        going.left ∙ ap (λ n. fair_rounds_kept sees keeps handed n (in_turn (at_meter net c) turns)) one

    -- its events, of the plan and by the words of the start
    round_is : fair_round handed turns net.network.plan ≡ fair_round (words_after words (length plan.switches) i) turns plan
    round_is = ap (fair_round handed turns) going.same ∙ ap (λ (w : Words). fair_round w turns plan) going.next

    -- its network and its turns
    run_so : (result : Result (Unit {0}) EventFault) (e : M) → kept_of handed net turns c ≡ (result, in_turn (at_meter after e) behind)
        → run_events (fairly record_apply) Mid (fair_round handed turns net.network.plan) ≡ (result, After)
    run_so result e is = sym (record_of handed net turns c) ∙ ap (λ (o : Outcome (InTurn (MeteredRecord M))). (o.0, seen o.1)) is

    started_so : (result : Result (Unit {0}) EventFault) (e : M) → kept_of handed net turns c ≡ (result, in_turn (at_meter after e) behind)
        → run_events (fairly record_apply) Mid (fair_round (words_after words (length plan.switches) i) turns plan) ≡ (result, After)
    started_so result e is = ap (run_events (fairly record_apply) Mid) (sym round_is) ∙ run_so result e is

    pub fair_runs : (done : Bool) → KeepsFairRound sees keeps handed net turns c (Ok done) after behind d
        → run_events (fairly record_apply) Mid (fair_round handed turns net.network.plan) ≡ (Ok tt, After)
    fair_runs done came = run_so (Ok tt) came.0 came.1

    -- what is kept where the round ended so
    abbrev by_later : M → Bool → M
    by_later e is_later =
        if is_later then fair_rounds_kept sees keeps later rest (in_turn (at_meter after (keeps.ended e true)) behind)
        else keeps.passed (keeps.ended e false) rest

    -- something was done in it
    pub goes_on_fairly : after.network.plan ≡ net.network.plan → KeepsFairRound sees keeps handed net turns c (Ok true) after behind d
        → FairGoing words start first begun count (i + 1) (words_behind handed (length after.network.plan.switches)) after behind d
    goes_on_fairly kept came = record {
      run = fair_taken record_apply plan words Start Mid After i going.run (started_so (Ok tt) came.0 came.1);
      same = kept ∙ going.same;
      next =
          ap (λ (p : Plan). words_behind handed (length p.switches)) (kept ∙ going.same)
          ∙ ap (λ (w : Words). words_behind w (length plan.switches)) going.next ∙ words_next words (length plan.switches) i;
      left =
          next_left ∙ ap (λ (o : Outcome (InTurn (MeteredRecord M))). kept_fairly sees keeps rest (fair_rounds_kept sees keeps later rest) net o) came.1
          ∙ ap (by_later came.0) (sym came.2) ∙ ap (λ e. fair_rounds_kept sees keeps later rest (in_turn (at_meter after e) behind)) (sym came.3)
          ∙ ap (λ (p : Plan). fair_rounds_kept sees keeps (words_behind handed (length p.switches)) rest (in_turn (at_meter after d) behind)) (sym kept);
    }

    -- nothing was: nor is anything in those behind it
    pub fair_idle_counts : KeepsFairRound sees keeps handed net turns c (Ok false) after behind d
        → keeps.passed d rest ≡ fair_rounds_kept sees keeps words count (in_turn (at_meter start begun) first)
    fair_idle_counts came =
        sym (next_left ∙ ap (λ (o : Outcome (InTurn (MeteredRecord M))). kept_fairly sees keeps rest (fair_rounds_kept sees keeps later rest) net o) came.1
        ∙ ap (by_later came.0) (sym came.2) ∙ ap (λ m. keeps.passed m rest) (sym came.3))

    pub fair_idle_ends : KeepsFairRound sees keeps handed net turns c (Ok false) after behind d → Ends (Ok tt)
    fair_idle_ends came =
        let few = few_done net.count after.count (sym came.2) in
        fair_idle record_apply plan words Start Mid After i going.run count further (λ (r : NetRecord). r.count) records_count
        (inl (sym (started_so (Ok tt) came.0 came.1))) few.0 few.1

    pub fair_fault_ends : (f : EventFault) → kept_of handed net turns c ≡ (Err f, in_turn (at_meter after d) behind) → Ends (Err f)
    fair_fault_ends f is =
        fair_refused record_apply plan words Start Mid After i going.run count further f (inl (sym (started_so (Err f) d is)))

    pub fair_fault_counts : (f : EventFault) → kept_of handed net turns c ≡ (Err f, in_turn (at_meter after d) behind)
        → d ≡ fair_rounds_kept sees keeps words count (in_turn (at_meter start begun) first)
    fair_fault_counts f is =
        sym (next_left ∙ ap (λ (o : Outcome (InTurn (MeteredRecord M))). kept_fairly sees keeps rest (fair_rounds_kept sees keeps later rest) net o) is)
