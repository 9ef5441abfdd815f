-- What is kept of the rounds of a run, by a meter that is told of their tokens: before each round something begins, behind it
-- is told whether anything was done, and rounds in which nothing would be done pass.
--     rounds_kept words n s      of n rounds whose inputs are handed words
--     fair_rounds_kept words n x      of n fair rounds, from turns on
use Rattle.{c104_event.specs.declared.faults.EventFault.EventFault, c104_net.specs.MeteredRecords.{MeteredRecord, at_meter, record_metered}}
use Rattle.{c104_node.specs.declared.tagged.TaggedToken.TaggedToken, c104_run.specs.{EventRuns.{Outcome, run_events}, FairRounds.InTurn}}
use Rattle.c104_run.specs.{FairRounds.{fair_round, fairly, in_turn}, HandedWords.{round_with, words_behind}, Meters.Sees}
use Rattle.c104_run.specs.{NetRecords.{NetRecord, largest_ticket}, declared.{turns.SwitchTurns.SwitchTurns, words.Words.Words}}
use Rattle.c104_session.specs.Leavings.{LeavesFairly, LeavesRounds}
use Rattle.std.specs.Prelude.{Bool, Err, List, Ok, Result, false, if◌then◌else◌, length, nat_le, nat_lt, suc, true, zero, ℕ, ◌||◌, ◌≡◌, ◌⊎◌}

-- whether anything was done, by how many events were before and after. At the largest count, which no network comes near,
-- that can't be told, and counts as done
abbrev pub is_later : ℕ → ℕ → Bool
is_later before after = nat_lt before after || nat_le largest_ticket before

-- what a meter comes to before a round, behind one in which something was done or not, and as many rounds pass
pub record Keeping (M : Type 0) : Type 0 where
  pub begun : NetRecord → M → M
  pub ended : M → Bool → M
  pub passed : M → ℕ → M

module _ {M : Type 0} (sees : Sees M TaggedToken) (keeps : Keeping M) where
  -- the events of a round that has begun
  abbrev pub round_kept : Words → MeteredRecord M → Outcome (MeteredRecord M)
  round_kept words s =
      run_events (record_metered sees) (at_meter s.net (keeps.begun s.net s.meter)) (round_with words s.net.network.plan)

  -- a round that ended so, and those behind it: where nothing was done nothing is done in any of them, and they pass
  abbrev pub kept_on : ℕ → (MeteredRecord M → M) → NetRecord → Outcome (MeteredRecord M) → M
  kept_on left more old (Err f, s) = s.meter
  kept_on left more old (Ok u, s) =
      if is_later old.count s.net.count then more (at_meter s.net (keeps.ended s.meter true))
      else keeps.passed (keeps.ended s.meter false) left

  -- each further round with the words behind those of the one before
  abbrev pub rounds_kept : Words → ℕ → MeteredRecord M → M
  rounds_kept words zero s = s.meter
  rounds_kept words (suc n) s =
      kept_on n (rounds_kept (words_behind words (length s.net.network.plan.switches)) n) s.net (round_kept words s)

  -- the same of fair rounds, each by the turns that those before it left
  abbrev pub fair_round_kept : Words → InTurn (MeteredRecord M) → Outcome (InTurn (MeteredRecord M))
  fair_round_kept words x =
      run_events (fairly (record_metered sees)) (in_turn (at_meter x.state.net (keeps.begun x.state.net x.state.meter)) x.turns)
      (fair_round words x.turns x.state.net.network.plan)

  abbrev pub kept_fairly : ℕ → (InTurn (MeteredRecord M) → M) → NetRecord → Outcome (InTurn (MeteredRecord M)) → M
  kept_fairly left more old (Err f, x) = x.state.meter
  kept_fairly left more old (Ok u, x) =
      if is_later old.count x.state.net.count then more (in_turn (at_meter x.state.net (keeps.ended x.state.meter true)) x.turns)
      else keeps.passed (keeps.ended x.state.meter false) left

  abbrev pub fair_rounds_kept : Words → ℕ → InTurn (MeteredRecord M) → M
  fair_rounds_kept words zero x = x.state.meter
  fair_rounds_kept words (suc n) x =
      kept_fairly n (fair_rounds_kept (words_behind words (length x.state.net.network.plan.switches)) n) x.state.net
      (fair_round_kept words x)

  -- what one round comes to: as is kept of it, and whether anything was done; or a fault stops it, or there is no memory
  -- after some of its events
  abbrev pub KeepsRound : Words → NetRecord → M → Result Bool EventFault → NetRecord → M → Type 0
  KeepsRound words net m (Ok done) after kept =
      (e : M) × (round_kept words (at_meter net m) ≡ (Ok tt, at_meter after e)) × (done ≡ is_later net.count after.count)
      × (kept ≡ keeps.ended e done)
  KeepsRound words net m (Err f) after kept =
      (round_kept words (at_meter net m) ≡ (Err f, at_meter after kept))
      ⊎ ((f ≡ EventFault.NoMemory) × LeavesRounds words net 1 after)

  -- what one fair round comes to, from turns on, and the turns that it leaves
  abbrev pub KeepsFairRound : Words → NetRecord → List SwitchTurns → M → Result Bool EventFault → NetRecord → List SwitchTurns → M → Type 0
  KeepsFairRound words net turns m (Ok done) after left kept =
      (e : M) × (fair_round_kept words (in_turn (at_meter net m) turns) ≡ (Ok tt, in_turn (at_meter after e) left))
      × (done ≡ is_later net.count after.count) × (kept ≡ keeps.ended e done)
  KeepsFairRound words net turns m (Err f) after left kept =
      (fair_round_kept words (in_turn (at_meter net m) turns) ≡ (Err f, in_turn (at_meter after kept) left))
      ⊎ ((f ≡ EventFault.NoMemory) × LeavesFairly words net turns 1 after left)
