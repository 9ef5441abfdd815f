-- Events in turn, of any kind of state, up to the first that a fault refuses.
use Rattle.{c104_event.specs.declared.{events.Event.Event, faults.EventFault.EventFault}, c104_run.specs.NetRecords.is_done}
use Rattle.c104_switch.specs.Actions.{Reply}
use Rattle.std.specs.Prelude.{Err, List, Ok, Result, [], true, ◌++◌, ◌∷◌, ◌≡◌, ◌⊎◌}

-- what a run comes to: whether a fault stopped it, and the state after it
abbrev pub Outcome : (S : Type 0) → Type 0
Outcome S = Result (Unit {0}) EventFault × S

-- after a fault nothing more happens
abbrev pub unless_fault : {S X : Type 0} → Result X EventFault → S → (S → Outcome S) → Outcome S
unless_fault (Ok x) s more = more s
unless_fault (Err f) s more = (Err f, s)

-- the events of a state: what each answers and leaves
module _ {S : Type 0} (apply : S → Event → Result Reply EventFault × S) where
  -- a run of events in turn, up to the first that a fault refuses
  abbrev pub run_events : S → List Event → Outcome S
  run_events s [] = (Ok tt, s)
  run_events s (e ∷ events) =
      unless_fault (apply s e).0 (apply s e).1 (λ next. run_events next events)

  -- an answer and the state after it: what is due; or, of an event that would be done, that memory has
  -- run out, and nothing changed
  abbrev pub Answers : S → Event → Result Reply EventFault → S → Type 0
  Answers s e answer after =
      (◌≡◌ {A = Result Reply EventFault × S} (answer, after) (apply s e))
      ⊎ ((answer ≡ Err EventFault.NoMemory) × (is_done (apply s e).0 ≡ true) × (after ≡ s))

  -- the answers to events in turn
  abbrev pub AnswersAll : S → List Event → List (Result Reply EventFault) → S → Type 0
  AnswersAll s [] [] after = after ≡ s
  AnswersAll s (e ∷ events) (a ∷ answers) after =
      (next : S) × Answers s e a next × AnswersAll next events answers after
  AnswersAll s [] (a ∷ answers) after = ⊥
  AnswersAll s (e ∷ events) [] after = ⊥

  -- out of memory for an event that would be done, and each event before it stands
  pub record StopsShort (s : S) (events : List Event)
      (result : Result (Unit {0}) EventFault) (after : S) : Type 0 where
    pub refused : result ≡ Err EventFault.NoMemory
    pub front : List Event
    pub event : Event
    pub rest : List Event
    pub parts : events ≡ front ++ event ∷ rest
    pub stands : run_events s front ≡ (Ok tt, after)
    pub wanted : is_done (apply after event).0 ≡ true

  -- how a run ends: with what is due, or short of it when out of memory
  abbrev pub EventsEnd : S → List Event → Result (Unit {0}) EventFault → S → Type 0
  EventsEnd s events result after =
      (◌≡◌ {A = Outcome S} (result, after) (run_events s events))
      ⊎ StopsShort s events result after
