-- What is left of rounds that are done one by one, where one of them stopped after some of its events.
use Rattle.{c104_event.specs.declared.events.Event.Event, c104_plan.specs.Plans.Plan, c104_run.proofs.LaterWords.words_after}
use Rattle.c104_run.{proofs.{RoundRuns.run_from, WordedRounds.words_from}, specs.{EventRuns.{Outcome, run_events}, HandedWords.round_with}}
use Rattle.c104_run.specs.{HandedWords.{rounds_with, words_behind}, NetRecords.NetRecord, RecordedRuns.record_apply}
use Rattle.{c104_run.specs.declared.words.Words.Words, c104_session.specs.Leavings.LeavesRounds, std.proofs.Common.{List, Ok, ap}}
use Rattle.std.proofs.Common.{append-nil, append_assoc, arith, length, suc, sym, ℕ, ◌++◌, ◌-◌, ◌<◌, ◌∙◌, ◌≡◌}

-- the events of the next one in two parts
pub parted : (before front rest more : List Event) → before ++ ((front ++ rest) ++ more) ≡ (before ++ front) ++ (rest ++ more)
parted before front rest more = search (arith, append_assoc)

module _ (words handed : Words) (start net after : NetRecord) (i n : ℕ) where
  abbrev plan : Plan
  plan = start.network.plan

  abbrev now : Words
  now = words_after words (length plan.switches) i

  -- those of the rounds behind it
  abbrev more : List Event
  more = rounds_with (words_behind now (length plan.switches)) plan (n - suc i)

  pub later_left : i < n → run_events record_apply start (rounds_with words plan i) ≡ (Ok tt, net) → net.network.plan ≡ plan
      → handed ≡ now → LeavesRounds handed net 1 after → LeavesRounds words start n after
  later_left further run same next left =
      let one : round_with now plan ≡ left.0 ++ left.1 =
      sym (append-nil (round_with now plan)) ∙ ap (λ (w : Words). rounds_with w plan 1) (sym next)
      ∙ ap (λ (p : Plan). rounds_with handed p 1) (sym same) ∙ left.2 in (
        rounds_with words plan i ++ left.0,
        left.1 ++ more,
        words_from plan words i n further ∙ ap (λ es. rounds_with words plan i ++ (es ++ more)) one
            ∙ parted (rounds_with words plan i) left.0 left.1 more,
        left.3 ∙ ap (λ (o : Outcome NetRecord). o.1) (sym (run_from record_apply start net (rounds_with words plan i) left.0 run)),
      )
