-- What is left of a session where there was no memory to answer a line.
use Rattle.{c104_event.specs.declared.events.Event.Event, c104_run.specs.{EventRuns.run_events, FairRounds.{fair_events, fairly, in_turn}}}
use Rattle.c104_run.specs.{HandedWords.{rounds_with, words_of}, NetRecords.NetRecord, RecordedRuns.record_apply}
use Rattle.{c104_run.specs.declared.{turns.SwitchTurns.SwitchTurns, words.Words.Words}, c104_script.specs.Script.read_script_line}
use Rattle.{c104_script.specs.declared.{faults.LineFault.LineFault, places.Request.Request}, c104_session.specs.Settling.rounds_to_rest}
use Rattle.c104_session.specs.declared.session.Session.{Session}
use Rattle.std.specs.Prelude.{Bool, Err, List, None, Ok, Option, Result, Some, false, true, ℕ, ◌++◌, ◌≡◌}

-- the network after the first of the events of a given number of rounds whose inputs are handed words: none, some or all of
-- them, and no others
abbrev pub LeavesRounds : Words → NetRecord → ℕ → NetRecord → Type 0
LeavesRounds words net count left = (front : List Event) × (rest : List Event)
    × (rounds_with words net.network.plan count ≡ front ++ rest)
    × (left ≡ (run_events record_apply net front).1)

-- the network and the turns after the first of the events of a given number of fair rounds
abbrev pub LeavesFairly : Words → NetRecord → List SwitchTurns → ℕ → NetRecord → List SwitchTurns → Type 0
LeavesFairly words net turns count left behind = (front : List Event) × (rest : List Event)
    × (fair_events record_apply words net.network.plan count (in_turn net turns) ≡ front ++ rest)
    × (in_turn left behind ≡ (run_events (fairly record_apply) (in_turn net turns) front).1)

-- what rounds leave, which are fair or not: only fair ones change the turns
abbrev pub LeavesSome : Bool → Words → NetRecord → List SwitchTurns → ℕ → NetRecord → List SwitchTurns → Type 0
LeavesSome false words net turns count left behind = LeavesRounds words net count left × (behind ≡ turns)
LeavesSome true words net turns count left behind = LeavesFairly words net turns count left behind

-- the network and the turns that a request leaves for which there was no memory: an event isn't done, rounds may be done in
-- part, and what the debugger has done by then isn't said
abbrev pub LeavesNet : NetRecord → List SwitchTurns → Request → NetRecord → List SwitchTurns → Type 0
LeavesNet net turns (Request.Asked event) left behind = (left ≡ net) × (behind ≡ turns)
LeavesNet net turns (Request.Rounds count is_fair seed) left behind = LeavesSome is_fair (words_of seed) net turns count left behind
LeavesNet net turns Request.Settle left behind = LeavesSome false Words.Zero net turns (rounds_to_rest net) left behind
LeavesNet net turns (Request.Probed it) left behind = behind ≡ turns
LeavesNet net turns (Request.Refused kind) left behind = (left ≡ net) × (behind ≡ turns)

-- those that a line leaves which asks this: one that asks nothing, or is faulty, leaves them as they were
abbrev pub LeavesRead : NetRecord → List SwitchTurns → Result (Option Request) LineFault → NetRecord → List SwitchTurns → Type 0
LeavesRead net turns (Ok None) left behind = (left ≡ net) × (behind ≡ turns)
LeavesRead net turns (Ok (Some request)) left behind = LeavesNet net turns request left behind
LeavesRead net turns (Err kind) left behind = (left ≡ net) × (behind ≡ turns)

-- of a session all but its network and the turns at its switches stays
abbrev pub KeepsAllButNet : Session → Session → Type 0
KeepsAllButNet session left = left ≡ record session { net = left.net; turns = left.turns }

-- there was no memory to answer a line: all but the network and its turns stays, and what the line asks is done in part or
-- not at all
abbrev pub LeavesLine : Session → List ℕ → Session → Type 0
LeavesLine session line left = KeepsAllButNet session left
    × LeavesRead session.net session.turns (read_script_line session.net.network.plan session.image line) left.net left.turns
