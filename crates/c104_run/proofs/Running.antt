-- A run of events goes on by one event.
use Rattle.{c104_event.specs.declared.{events.Event.Event, faults.EventFault.EventFault}, c104_run.specs.EventRuns.{Answers, AnswersAll}}
use Rattle.{c104_switch.specs.Actions.Reply, std.proofs.Common.{List, Result, [], refl, subst, ◌++◌, ◌∷◌}}

module _ {S : Type 0} (apply : S → Event → Result Reply EventFault × S) where
  pub run_on : (s mid after : S) (events : List Event) (answers : List (Result Reply EventFault)) (e : Event) (a : Result Reply EventFault) →
      AnswersAll apply s events answers mid → Answers apply mid e a after → AnswersAll apply s (events ++ e ∷ []) (answers ++ a ∷ []) after
  run_on s mid after [] [] e a run more = (after, subst (λ n. Answers apply n e a after) run more, refl)
  run_on s mid after (d ∷ events) (b ∷ answers) e a run more = (run.0, run.1, run_on run.0 mid after events answers e a run.2 more)
  run_on s mid after events answers e a run more = absurd run
