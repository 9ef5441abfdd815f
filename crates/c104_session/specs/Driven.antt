-- What a driver keeps of what a network is asked, line by line of a script, beside what the network does and answers.
use Rattle.{c104_event.specs.declared.{events.Event.Event, faults.EventFault.EventFault}, c104_run.specs.EventRuns.run_events}
use Rattle.c104_run.specs.{FairRounds.{InTurn, fair_events, fairly, in_turn}, HandedWords.{rounds_with, words_of}, NetRecords.NetRecord}
use Rattle.c104_run.specs.{RecordedRuns.record_apply, declared.{turns.SwitchTurns.SwitchTurns, words.Words.Words}}
use Rattle.c104_script.specs.{Answering.shown_by, Script.read_script_line, declared.{answers.Answer.Answer, faults.LineFault.LineFault}}
use Rattle.{c104_script.specs.declared.places.Request.Request, c104_session.specs.Refusals.{no_refusals, refused_too}}
use Rattle.c104_session.specs.{Settling.rounds_to_rest, Shown.line_answer, declared.{driven.Driven.Driven, session.Session.Session}}
use Rattle.c104_switch.specs.Actions.{Reply}
use Rattle.std.specs.Prelude.{Bool, Err, List, None, Ok, Option, Result, Some, false, if◌then◌else◌, true, ℕ, ◌≡◌, ◌⊎◌}

-- what a driver keeps: its state after it did an event, or as many rounds whose inputs are handed words, on a network that
-- was in this state; or as many fair rounds, from turns on. That is said of all that memory suffices for
pub record Driving (D : Type 0) : Type 0 where
  pub event : D → NetRecord → Event → D
  pub rounds : D → NetRecord → Words → ℕ → D
  pub fair : D → NetRecord → List SwitchTurns → Words → ℕ → D

-- an event was done, or refused, as is due; or there was no memory for it
abbrev pub DoesEvent : NetRecord → Event → Result Reply EventFault → NetRecord → Type 0
DoesEvent net event result after =
    (◌≡◌ {A = Result Reply EventFault × NetRecord} (result, after) (record_apply net event)) ⊎ (result ≡ Err EventFault.NoMemory)

-- the same of rounds
abbrev pub DoesRounds : Words → NetRecord → ℕ → Result (Unit {0}) EventFault → NetRecord → Type 0
DoesRounds words net count result after =
    (◌≡◌ {A = Result (Unit {0}) EventFault × NetRecord} (result, after)
    (run_events record_apply net (rounds_with words net.network.plan count)))
    ⊎ (result ≡ Err EventFault.NoMemory)

-- the same of fair rounds, and of the turns that they leave
abbrev pub DoesFairly : Words → NetRecord → List SwitchTurns → ℕ → Result (Unit {0}) EventFault → NetRecord → List SwitchTurns → Type 0
DoesFairly words net turns count result after left =
    (◌≡◌ {A = Result (Unit {0}) EventFault × InTurn NetRecord} (result, in_turn after left)
    (run_events (fairly record_apply) (in_turn net turns)
    (fair_events record_apply words net.network.plan count (in_turn net turns))))
    ⊎ (result ≡ Err EventFault.NoMemory)

-- a driver that keeps nothing
abbrev pub keeps_nothing : {D : Type 0} → Driving D
keeps_nothing = record {
  event = λ driver net e. driver;
  rounds = λ driver net words count. driver;
  fair = λ driver net turns words count. driver;
}

-- before a script's first line
abbrev pub new_driven : {D : Type 0} → Session → D → Driven D
new_driven session driver = record { session = session; driver = driver; refusals = no_refusals }

module _ {D : Type 0} (drives : Driving D) where
  -- the driver after rounds, which are fair or not
  abbrev pub rounds_driven : D → NetRecord → List SwitchTurns → Bool → Words → ℕ → D
  rounds_driven driver net turns false words count = drives.rounds driver net words count
  rounds_driven driver net turns true words count = drives.fair driver net turns words count

  -- the driver after a request: it does events and rounds, and has no part in anything else
  abbrev pub request_driven : D → NetRecord → List SwitchTurns → Request → D
  request_driven driver net turns (Request.Asked event) = drives.event driver net event
  request_driven driver net turns (Request.Rounds count is_fair seed) = rounds_driven driver net turns is_fair (words_of seed) count
  request_driven driver net turns Request.Settle = drives.rounds driver net Words.Zero (rounds_to_rest net)
  request_driven driver net turns (Request.Probed it) = driver
  request_driven driver net turns (Request.Refused kind) = driver

  -- the same of what was read of a line
  abbrev pub read_driven : D → NetRecord → List SwitchTurns → Result (Option Request) LineFault → D
  read_driven driver net turns (Ok None) = driver
  read_driven driver net turns (Ok (Some request)) = request_driven driver net turns request
  read_driven driver net turns (Err kind) = driver

  -- the driver after a line
  unfoldable pub line_driven : D → Session → List ℕ → D
  line_driven driver session text =
      read_driven driver session.net session.turns (read_script_line session.net.network.plan session.image text)

  -- what answers a line, and the run and the driver after it: nothing is done any more once the run is over
  abbrev pub done_answer : Driven D → List ℕ → Option Answer × Driven D
  done_answer s text =
      let r = line_answer s.session text in
      (r.0, record { session = r.1; driver = line_driven s.driver s.session text; refusals = refused_too s.refusals r.0 })

  abbrev pub driven_answer : Driven D → List ℕ → Option Answer × Driven D
  driven_answer s text = if s.refusals.is_over then (None, s) else done_answer s text

  -- what a line of this number shows, and the run and the driver after it
  abbrev pub driven_outcome : ℕ → Driven D → List ℕ → List ℕ × Driven D
  driven_outcome = shown_by driven_answer
