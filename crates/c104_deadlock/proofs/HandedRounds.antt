-- Whether an event is ready doesn't depend on the word that it is handed: so where no event of a round is ready, none is of
-- a round with other words, and events of which none is leave all as it was.
use Rattle.{c104_event.specs.declared.events.Event.Event, c104_run.proofs.{HandedWords.apply_word, RoundRuns.{Applied, undone_left}}}
use Rattle.c104_run.specs.{EventRuns.{Outcome, run_events, unless_fault}, HandedWords.{all_worded, word_at, worded}, NetRecords.is_done}
use Rattle.c104_run.specs.{Network.{Network, network_apply}, Standstill.IsUnready, declared.words.Words.Words}
use Rattle.{c104_switch.specs.declared.actions.ReplyOf.ReplyOf, c104_token.specs.Kinds.Kind, std.proofs.Common.{List, Ok, [], ap, refl, ℕ}}
use Rattle.std.{proofs.Common.{◌∙◌, ◌∷◌, ◌≡◌}, specs.List.AllByRecursion}

module _ {A : Type 0} (kind : Kind A) (net : Network A) where
  abbrev Unready : Event → Type 0
  Unready e = IsUnready kind net e

  -- an event that isn't ready changes nothing
  unready_idle : (e : Event) → Unready e → ◌≡◌ {A = Applied (Network A)} (network_apply kind net e) (Ok ReplyOf.NotReady, net)
  unready_idle e is =
      ap (λ o. (o, (network_apply kind net e).1)) is ∙ ap (λ (n : Network A). (Ok ReplyOf.NotReady, n)) (undone_left kind net e (ap is_done is))

  pub turn_unready : (v w s l : ℕ) → Unready (Event.Input s l v) → Unready (Event.Input s l w)
  turn_unready v w s l is = ap (λ (z : Applied (Network A)). z.0) (apply_word kind v w net s l (unready_idle (Event.Input s l v) is))

  module _ (words : Words) where
    event_worded : (e : Event) → Unready e → Unready (worded words e)
    event_worded (Event.Input s l w) is = turn_unready w (word_at words s l) s l is
    event_worded e is = is

    event_plain : (e : Event) → Unready (worded words e) → Unready e
    event_plain (Event.Input s l w) is = turn_unready (word_at words s l) w s l is
    event_plain e is = is

    -- the same of each of some events
    pub still_worded : (es : List Event) → AllByRecursion Unready es → AllByRecursion Unready (all_worded words es)
    still_worded [] all = tt
    still_worded (e ∷ es) all = (event_worded e all.0, still_worded es all.1)

    pub still_plain : (es : List Event) → AllByRecursion Unready (all_worded words es) → AllByRecursion Unready es
    still_plain [] all = tt
    still_plain (e ∷ es) all = (event_plain e all.0, still_plain es all.1)

  -- events of which none is ready leave the network as it was
  abbrev Stays : List Event → Type 0
  Stays es = ◌≡◌ {A = Outcome (Network A)} (run_events (network_apply kind) net es) (Ok tt, net)

  pub unready_stays : (es : List Event) → AllByRecursion Unready es → Stays es
  unready_stays [] all = refl
  unready_stays (e ∷ es) all = ap (λ (z : Applied (Network A)). unless_fault z.0 z.1 (λ n. run_events (network_apply kind) n es)) (unready_idle e all.0) ∙ unready_stays es all.1
