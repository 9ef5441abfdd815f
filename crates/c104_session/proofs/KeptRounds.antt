-- Rounds of which something is kept, one by one: what is kept of them, and how the network goes on beside that.
use Rattle.{c104_event.specs.declared.faults.EventFault.EventFault, c104_net.specs.MeteredRecords.{MeteredRecord, at_meter, record_metered}}
use Rattle.{c104_node.specs.declared.tagged.TaggedToken.TaggedToken, c104_plan.specs.Plans.Plan, c104_run.proofs.IdleRounds.records_count}
use Rattle.c104_run.proofs.{IdleRounds.words_idle, LaterWords.words_after, RoundRuns.run_seen, WordedRounds.{words_next, words_refused}}
use Rattle.c104_run.{proofs.WordedRounds.words_taken, specs.{EventRuns.{EventsEnd, Outcome, run_events}, HandedWords.round_with}}
use Rattle.c104_run.specs.{HandedWords.{rounds_with, words_behind}, Meters.Sees, NetRecords.{NetRecord, largest_ticket}}
use Rattle.{c104_run.specs.{RecordedRuns.record_apply, declared.words.Words.Words}, c104_session.specs.Keepers.{Keeping, KeepsRound}}
use Rattle.{c104_session.specs.Keepers.{is_later, kept_on, round_kept, rounds_kept}, std.proofs.Common.{Bool, Err, Ok, Result, ap, arith}}
use Rattle.std.proofs.Common.{false, if◌then◌else◌, inl, length, refl, suc, sym, true, ℕ, ◌+◌, ◌-◌, ◌<◌, ◌∙◌, ◌≡◌, ◌≤◌}
use Rattle.std.proofs.lemmas.Bool.Decides.{nat_tests}

-- no more events were done than before
pub few_done : (before after : ℕ) → is_later before after ≡ false → (before < largest_ticket) × (after ≤ before)
few_done before after none = (grind (arith, nat_tests, none), grind (arith, nat_tests, none))

module _ {M : Type 0} (sees : Sees M TaggedToken) (keeps : Keeping M) where
  -- the network of a round of which something is kept goes on as by itself
  pub record_of : (words : Words) (net : NetRecord) (c : M)
      → ◌≡◌ {A = Outcome NetRecord} ((round_kept sees keeps words (at_meter net c)).0, (round_kept sees keeps words (at_meter net c)).1.net)
      (run_events record_apply net (round_with words net.network.plan))
  record_of words net c =
      run_seen (record_metered sees) record_apply (λ (s : MeteredRecord M). s.net) (λ s e. refl) (round_with words net.network.plan)
      (at_meter net (keeps.begun net c))

  -- n rounds are done, the next one is handed these words, and these are left
  pub record Going (words : Words) (start : NetRecord) (begun : M) (count i : ℕ) (handed : Words) (net : NetRecord) (c : M) : Type 0 where
    pub run : run_events record_apply start (rounds_with words start.network.plan i) ≡ (Ok tt, net)
    pub same : net.network.plan ≡ start.network.plan
    pub next : handed ≡ words_after words (length start.network.plan.switches) i
    pub left : rounds_kept sees keeps words count (at_meter start begun) ≡ rounds_kept sees keeps handed (count - i) (at_meter net c)

  module _ (words : Words) (start : NetRecord) (begun : M) (count i : ℕ) (handed : Words) (net after : NetRecord) (c d : M)
      (going : Going words start begun count i handed net c) (further : i < count) where
    abbrev plan : Plan
    plan = start.network.plan

    abbrev rest : ℕ
    rest = count - (i + 1)

    abbrev behind : Words
    behind = words_behind handed (length net.network.plan.switches)

    -- what the next one comes to
    next_left : rounds_kept sees keeps words count (at_meter start begun)
        ≡ kept_on sees keeps rest (rounds_kept sees keeps behind rest) net (round_kept sees keeps handed (at_meter net c))
    next_left =
        let one : count - i ≡ suc rest = omega (arith, further) in
        going.left ∙ ap (λ n. rounds_kept sees keeps handed n (at_meter net c)) one

    -- its events, of the plan and by the words of the start
    round_is : round_with handed net.network.plan ≡ round_with (words_after words (length plan.switches) i) plan
    round_is = ap (round_with handed) going.same ∙ ap (λ (w : Words). round_with w plan) going.next

    -- its network
    run_so : (result : Result (Unit {0}) EventFault) (e : M) → round_kept sees keeps handed (at_meter net c) ≡ (result, at_meter after e)
        → run_events record_apply net (round_with handed net.network.plan) ≡ (result, after)
    run_so result e is = sym (record_of handed net c) ∙ ap (λ (o : Outcome (MeteredRecord M)). (o.0, o.1.net)) is

    started_so : (result : Result (Unit {0}) EventFault) (e : M)
        → round_kept sees keeps handed (at_meter net c) ≡ (result, at_meter after e)
        → run_events record_apply net (round_with (words_after words (length plan.switches) i) plan) ≡ (result, after)
    started_so result e is = ap (run_events record_apply net) (sym round_is) ∙ run_so result e is

    pub round_runs : (done : Bool) → KeepsRound sees keeps handed net c (Ok done) after d
        → run_events record_apply net (round_with handed net.network.plan) ≡ (Ok tt, after)
    round_runs done came = run_so (Ok tt) came.0 came.1

    -- what is kept where the round ended so
    abbrev by_later : M → Bool → M
    by_later e later =
        if later then rounds_kept sees keeps behind rest (at_meter after (keeps.ended e true)) else keeps.passed (keeps.ended e false) rest

    -- something was done in it
    pub goes_on : after.network.plan ≡ net.network.plan → KeepsRound sees keeps handed net c (Ok true) after d
        → Going words start begun count (i + 1) (words_behind handed (length after.network.plan.switches)) after d
    goes_on kept came = record {
      run = words_taken record_apply plan words start net after i going.run (started_so (Ok tt) came.0 came.1);
      same = kept ∙ going.same;
      next =
          ap (λ (p : Plan). words_behind handed (length p.switches)) (kept ∙ going.same)
          ∙ ap (λ (w : Words). words_behind w (length plan.switches)) going.next ∙ words_next words (length plan.switches) i;
      left =
          next_left ∙ ap (λ (o : Outcome (MeteredRecord M)). kept_on sees keeps rest (rounds_kept sees keeps behind rest) net o) came.1
          ∙ ap (by_later came.0) (sym came.2) ∙ ap (λ e. rounds_kept sees keeps behind rest (at_meter after e)) (sym came.3)
          ∙ ap (λ (p : Plan). rounds_kept sees keeps (words_behind handed (length p.switches)) rest (at_meter after d)) (sym kept);
    }

    -- nothing was: nor is anything in those behind it
    pub idle_counts : KeepsRound sees keeps handed net c (Ok false) after d
        → keeps.passed d rest ≡ rounds_kept sees keeps words count (at_meter start begun)
    idle_counts came =
        sym (next_left ∙ ap (λ (o : Outcome (MeteredRecord M)). kept_on sees keeps rest (rounds_kept sees keeps behind rest) net o) came.1
        ∙ ap (by_later came.0) (sym came.2) ∙ ap (λ m. keeps.passed m rest) (sym came.3))

    pub idle_ends : KeepsRound sees keeps handed net c (Ok false) after d
        → EventsEnd record_apply start (rounds_with words plan count) (Ok tt) after
    idle_ends came =
        let few = few_done net.count after.count (sym came.2) in
        inl (sym (words_idle record_apply (λ (r : NetRecord). r.count) records_count plan words start net after i count further going.run
        (inl (sym (started_so (Ok tt) came.0 came.1))) few.0 few.1))

    pub fault_ends : (f : EventFault) → round_kept sees keeps handed (at_meter net c) ≡ (Err f, at_meter after d)
        → EventsEnd record_apply start (rounds_with words plan count) (Err f) after
    fault_ends f is =
        words_refused record_apply plan words start net after i count f further going.run (inl (sym (started_so (Err f) d is)))

    pub fault_counts : (f : EventFault) → round_kept sees keeps handed (at_meter net c) ≡ (Err f, at_meter after d)
        → d ≡ rounds_kept sees keeps words count (at_meter start begun)
    fault_counts f is = sym (next_left ∙ ap (λ (o : Outcome (MeteredRecord M)). kept_on sees keeps rest (rounds_kept sees keeps behind rest) net o) is)
