-- What is left of a network where there was no memory for what a line asks.
use Rattle.{c104_event.specs.declared.{events.Event.Event, faults.EventFault.EventFault}, c104_run.specs.FairRounds.{fair_events, in_turn}}
use Rattle.c104_run.specs.{HandedWords.{rounds_with, words_of}, NetRecords.NetRecord, Network.{Network, outcome_if_possible}}
use Rattle.c104_run.specs.{Network.{outcome_if_ready, outcome_within_limit}, RecordedRuns.{AnswersRecord, RecordsHanded, record_apply}}
use Rattle.c104_run.specs.{RecordedRuns.{record_at, record_stage}, Stages.stage_after, declared.turns.SwitchTurns.SwitchTurns}
use Rattle.{c104_run.specs.declared.words.Words.Words, c104_script.specs.declared.{faults.LineFault.LineFault, places.Request.Request}}
use Rattle.{c104_session.specs.{Leavings.{LeavesNet, LeavesRead, LeavesRounds}, Settling.rounds_to_rest}, c104_switch.specs.Actions.Reply}
use Rattle.{c104_token.specs.{Kinds.plain_kind, declared.tokens.Token.Token}, std.proofs.Common.{Bool, Err, List, Ok, OnErr, Option}}
use Rattle.std.proofs.{Common.{Result, Some, [], arith, false, if◌then◌else◌, refl, subst, true, ℕ, ◌≡◌}, lemmas.List.append-nil}

abbrev Came : Type 0
Came = Result Reply EventFault × Network Token

-- an event that is refused leaves the network as it was: by a limit, or by a fault of the event
within_keeps : (net : Network Token) (limit : Option EventFault) (r : Reply × Network Token) (f : EventFault) → (outcome_within_limit plain_kind net limit r).0 ≡ Err f → (outcome_within_limit plain_kind net limit r).1 ≡ net
within_keeps net limit r f is = search arith

ready_keeps : (net : Network Token) (event : Event) (made : Option (Reply × Network Token)) (f : EventFault) → (outcome_if_ready plain_kind net event made).0 ≡ Err f → (outcome_if_ready plain_kind net event made).1 ≡ net
ready_keeps net event made f is = search (arith, within_keeps)

possible_keeps : (net : Network Token) (event : Event) (due : Option EventFault) (f : EventFault) → (outcome_if_possible plain_kind net event due).0 ≡ Err f → (outcome_if_possible plain_kind net event due).1 ≡ net
possible_keeps net event due f is = search (arith, ready_keeps)

-- or since a trace is full
test_keeps : (test : Bool) (net : Network Token) (due : Came) (f : EventFault) → (due.0 ≡ Err f → due.1 ≡ net) → (if◌then◌else◌ {A = Came} test (Err EventFault.TraceFull, net) due).0 ≡ Err f → (if◌then◌else◌ {A = Came} test (Err EventFault.TraceFull, net) due).1 ≡ net
test_keeps test net due f keeps is = search arith

-- and then so is the network with its record
record_keeps : (net : NetRecord) (event : Event) (came : Came) (f : EventFault) → came.0 ≡ Err f → came.1 ≡ net.network → record_at net.starts (stage_after true (record_stage net) event came).1 ≡ net
record_keeps net event came f is same = search arith

refused_keeps : (net : NetRecord) (event : Event) (f : EventFault) → (record_apply net event).0 ≡ Err f → (record_apply net event).1 ≡ net
refused_keeps net event f is = search (arith, record_keeps, test_keeps, possible_keeps)

-- an event that isn't done, for a fault or when out of memory, leaves all as it was
pub event_kept : (net : NetRecord) (event : Event) (answer : Result Reply EventFault) (left : NetRecord) → AnswersRecord net event answer left → OnErr answer (left ≡ net)
event_kept net event answer left came = search (arith, refused_keeps)

-- what rounds leave
pub rounds_left : (words : Words) (net : NetRecord) (count : ℕ) (result : Result (Unit {0}) EventFault) (left : NetRecord) → RecordsHanded words net count result left → LeavesRounds words net count left
rounds_left words net count result left recorded = search (arith, append-nil)

-- nothing was done
nothing_asked : (net : NetRecord) (turns : List SwitchTurns) (request : Request) → LeavesNet net turns request net turns
nothing_asked net turns (Request.Asked event) = (refl, refl)
nothing_asked net turns (Request.Rounds count false seed) = (([], rounds_with (words_of seed) net.network.plan count, refl, refl), refl)
nothing_asked net turns (Request.Rounds count true seed) = ([], fair_events record_apply (words_of seed) net.network.plan count (in_turn net turns), refl, refl)
nothing_asked net turns Request.Settle = (([], rounds_with Words.Zero net.network.plan (rounds_to_rest net), refl, refl), refl)
nothing_asked net turns (Request.Probed it) = refl
nothing_asked net turns (Request.Refused kind) = (refl, refl)

pub nothing_left : (net : NetRecord) (turns : List SwitchTurns) (due : Result (Option Request) LineFault) → LeavesRead net turns due net turns
nothing_left net turns due = search (arith, nothing_asked)

-- what a line leaves that asks this
pub request_left : (net : NetRecord) (turns : List SwitchTurns) (due : Result (Option Request) LineFault) (request : Request) (left : NetRecord) (behind : List SwitchTurns) → Ok (Some request) ≡ due → LeavesNet net turns request left behind → LeavesRead net turns due left behind
request_left net turns due request left behind is leaves = subst (λ (r : Result (Option Request) LineFault). LeavesRead net turns r left behind) is leaves
