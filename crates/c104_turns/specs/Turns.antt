-- What a worker does in its turns through a port, of which it is known what it may answer: all of it is told here, in order, so
-- that a worker that leaves anything out does something else.
use Rattle.{c104_event.specs.declared.{events.Event.Event, faults.EventFault.EventFault}, c104_turns.specs.Words.{with_word, word_of}}
use Rattle.c104_turns.specs.{Working.PartView, declared.{parts.Stage.{Stage, TheVariants.{Claims, Crossings, Turns}}, turns.Worker.Worker}}
use Rattle.std.specs.Prelude.{Bool, Err, List, None, Ok, Option, Result, Some, [], false, if◌then◌else◌, nat_eq, slice_get, suc, true, zero}
use Rattle.std.specs.Prelude.{ℕ, ◌∷◌, ◌≡◌, ◌⊎◌}

-- what is answered for something that is done or refused
abbrev pub End : Type 0
End = Result (Unit {0}) EventFault

-- those that are there of a list, by their numbers
abbrev pub with_some : Option Event → List Event → List Event
with_some None rest = rest
with_some (Some e) rest = e ∷ rest

abbrev pub events_at : List Event → List ℕ → List Event
events_at events [] = []
events_at events (n ∷ numbers) = with_some (slice_get events n) (events_at events numbers)

-- an event as a worker asks for it behind this many events that were done: the turn of an input with its word
abbrev pub handed : Worker → ℕ → Event → Event
handed w done e = with_word (word_of w.words w.number done) e

-- this came to an end in a state, and then the rest was done; or it was refused, and nothing after it
abbrev pub After : {P : Type 0} → End → P → End → P → Type 0 → Type 0
After (Ok done) mid end new rest = rest
After (Err f) mid end new rest = (end ≡ Err f) × (new ≡ mid)

-- these are done in turn, from one state to another, up to the first that is refused
abbrev pub InTurn : {P X : Type 0} → (X → P → End → P → Type 0) → List X → P → End → P → Type 0
InTurn one [] old end new = (end ≡ Ok tt) × (new ≡ old)
InTurn {P} one (x ∷ xs) old end new = (first : End) × (mid : P) × one x old first mid × After first mid end new (InTurn one xs mid end new)

-- the same of one event, once it was asked for: whether it may be asked for again
abbrev pub AfterOnce : {P : Type 0} → Result Bool EventFault → P → End → P → Type 0 → Type 0
AfterOnce (Ok true) mid end new rest = rest
AfterOnce (Ok false) mid end new rest = (end ≡ Ok tt) × (new ≡ mid)
AfterOnce (Err f) mid end new rest = (end ≡ Err f) × (new ≡ mid)

module _ {P : Type 0} (due : P → Event → Result Bool EventFault → P → Type 0) (done : P → ℕ) (w : Worker) where
  -- an event is done as long as the port has it so, but this often at most
  abbrev pub Often : ℕ → Event → P → End → P → Type 0
  Often zero e old end new = (end ≡ Ok tt) × (new ≡ old)
  Often (suc n) e old end new =
      (first : Result Bool EventFault) × (mid : P) × due old (handed w (done old) e) first mid
      × AfterOnce first mid end new (Often n e mid end new)

  module _ (lists : P → PartView → Stage → List ℕ → Type 0) (part : PartView) where
    -- a stage is done: the events that the port listed when it began, each in this way; or memory ran out before the first
    abbrev pub StageDone : Stage → P → End → P → Type 0
    StageDone stage old end new =
        ((numbers : List ℕ) × lists old part stage numbers × InTurn (Often w.times) (events_at part.events numbers) old end new)
        ⊎ ((end ≡ Err EventFault.NoMemory) × (new ≡ old))

    -- and the part of a node, stage by stage
    abbrev pub PartDone : P → End → P → Type 0
    PartDone old end new = InTurn StageDone (Crossings ∷ Turns ∷ Claims ∷ []) old end new

module _ {P : Type 0} (due : P → PartView → End → P → Type 0) (done : P → ℕ) (parts : List PartView) (most : ℕ) where
  -- this many turns are done, in each of which the parts are; but no more of them where `most` in a row did nothing, of which
  -- this many are left
  abbrev pub TurnsDone : ℕ → ℕ → P → End → P → Type 0
  TurnsDone zero left old end new = (end ≡ Ok tt) × (new ≡ old)
  TurnsDone (suc n) zero old end new = (end ≡ Ok tt) × (new ≡ old)
  TurnsDone (suc n) (suc left) old end new =
      (first : End) × (mid : P) × InTurn (λ part old end new. due old part end new) parts old first mid
      × After first mid end new (TurnsDone n (if nat_eq (done mid) (done old) then left else most) mid end new)
