-- What a run shows: the answers to the script's lines in turn, and then what arrived.
use Rattle.{c104_event.specs.declared.faults.EventFault.EventFault, c104_net.specs.{Deliveries.arrived_at, TracedEnds.traced_end}}
use Rattle.{c104_node.specs.{Origins.origins_in, declared.{origins.Origin.Origin, traced.Traced.Traced}}, c104_plan.specs.PlanImage.Image}
use Rattle.c104_plan.specs.{Plans.Plan, PortTexts.terminal_name, declared.{limits.TheConstants.MAX_SWITCHES, plans.Terminal.Terminal}}
use Rattle.c104_run.specs.{EventRuns.run_events, FairRounds.{InTurn, fair_events, fairly, first_turns, in_turn}}
use Rattle.c104_run.specs.{FinishedRecords.{FinishedRecord, record_finish}, HandedWords.{rounds_with, words_of}, NetRecords.NetRecord}
use Rattle.c104_run.specs.{NetRecords.fresh_record, Network.{Network, placed_network}, RecordedRuns.record_apply}
use Rattle.{c104_run.specs.declared.{turns.SwitchTurns.SwitchTurns, words.Words.Words}, c104_script.specs.Answering.shown_by}
use Rattle.c104_script.specs.{Script.read_script_line, Texts.token_text, declared.answers.Answer.{Answer, TheVariants.{Faulty, Refused}}}
use Rattle.c104_script.specs.declared.{answers.Answer.TheVariants.Replied, faults.LineFault.LineFault, places.Request.Request}
use Rattle.c104_session.specs.{Probing.probe_answer, Settling.{rounds_to_rest, settle_outcome}, declared.session.Session.Session}
use Rattle.{c104_session.specs.declared.summary_text.SummaryLine.SummaryLine, c104_stream.specs.ScriptLines.{is_long, script_too_long}}
use Rattle.{c104_stream.specs.Scripts.script_outcome, c104_switch.specs.{Actions.Reply, declared.actions.ReplyOf.TheVariants.Done}}
use Rattle.c104_token.specs.{Cut.whole_pieces, Packets.packet_tokens, Text.hex_digit, declared.tokens.Token.Token}
use Rattle.std.specs.Prelude.{Bool, Err, List, None, Ok, Option, Result, Some, [], codes, decimal, false, flat_map, map, option_to_list}
use Rattle.std.specs.Prelude.{replicate, suc, true, ℕ, ◌%◌, ◌++◌, ◌/◌, ◌∷◌}

-- a network of this plan with an image, before the first line
abbrev pub new_session : Plan → Image → Session
new_session plan image = record { net = fresh_record (placed_network plan image); image = image; faulty = false; turns = replicate MAX_SWITCHES first_turns }

-- what rounds answer: that they are done, or the refusal of the event that they stopped at
abbrev pub rounds_answer : Result (Unit {0}) EventFault → Result Reply EventFault
rounds_answer (Ok u) = Ok Done
rounds_answer (Err kind) = Err kind

-- the network after a given number of rounds whose inputs are handed these words, or after those events of them that came
-- before a refusal
abbrev pub rounds_outcome : Words → NetRecord → ℕ → Result Reply EventFault × NetRecord
rounds_outcome words net count =
    let r = run_events record_apply net (rounds_with words net.network.plan count) in (rounds_answer r.0, r.1)

-- the same of fair rounds, from turns on, and the turns that they leave
abbrev pub fair_outcome : Words → NetRecord → List SwitchTurns → ℕ → Result Reply EventFault × InTurn NetRecord
fair_outcome words net turns count =
    let r = run_events (fairly record_apply) (in_turn net turns)
    (fair_events record_apply words net.network.plan count (in_turn net turns)) in (rounds_answer r.0, r.1)

-- what answers an event: the reply, or the refusal
abbrev pub event_answer : Result Reply EventFault → Answer
event_answer (Ok r) = Replied r
event_answer (Err kind) = Refused kind

-- what answers a request that a network did, and the run after it
abbrev pub answer_after : Session → Result Reply EventFault × NetRecord → Answer × Session
answer_after session r = (event_answer r.0, record session { net = r.1 })

-- the same of fair rounds, which leave other turns
abbrev pub fair_after : Session → Result Reply EventFault × InTurn NetRecord → Answer × Session
fair_after session r = (event_answer r.0, record session { net = r.1.state; turns = r.1.turns })

-- of rounds, which are fair or not
abbrev pub rounds_after : Session → Bool → Words → ℕ → Answer × Session
rounds_after session false words count = answer_after session (rounds_outcome words session.net count)
rounds_after session true words count = fair_after session (fair_outcome words session.net session.turns count)

-- the same where the answer is made: of the debugger, and of rounds until the network stands still
abbrev pub probe_after : Session → Answer × NetRecord → Answer × Session
probe_after session r = (r.0, record session { net = r.1 })

-- what answers a request, and the run after it
abbrev pub request_answer : Session → Request → Answer × Session
request_answer session (Request.Asked event) = answer_after session (record_apply session.net event)
request_answer session (Request.Rounds count is_fair seed) = rounds_after session is_fair (words_of seed) count
request_answer session Request.Settle = probe_after session (settle_outcome session.net (rounds_to_rest session.net))
request_answer session (Request.Probed it) = probe_after session (probe_answer session.net session.image it)
request_answer session (Request.Refused kind) = (Refused kind, session)

-- a line without words has no answer; a faulty one changes nothing but that there was one
abbrev pub answer_of_read : Session → Result (Option Request) LineFault → Option Answer × Session
answer_of_read session (Ok None) = (None, session)
answer_of_read session (Ok (Some request)) = let r = request_answer session request in (Some r.0, r.1)
answer_of_read session (Err kind) = (Some (Faulty kind), record session { faulty = true })

-- what answers a line, and the run after it
unfoldable pub line_answer : Session → List ℕ → Option Answer × Session
line_answer session text =
    answer_of_read session (read_script_line session.net.network.plan session.image text)

-- what a line of this number shows, and the run after it
unfoldable pub line_outcome : ℕ → Session → List ℕ → List ℕ × Session
line_outcome = shown_by line_answer

-- a packet's tokens, parted by spaces
abbrev pub tokens_text : List Token → List ℕ
tokens_text [] = []
tokens_text (x ∷ []) = token_text x
tokens_text (x ∷ y ∷ more) = token_text x ++ 32 ∷ tokens_text (y ∷ more)

-- where a packet came from: the name of the terminal that sent it, and its number there
abbrev pub origin_text : Plan → Origin → List ℕ
origin_text plan origin = codes " from " ++ (terminal_name plan origin.terminal ++ (codes " " ++ decimal origin.number))

-- the line of a packet that a terminal of this name received: its tokens, and where it came from
abbrev pub packet_line : Plan → List ℕ → List Token → List Origin → List ℕ
packet_line plan name tokens origins =
    name ++ (codes ": " ++ (tokens_text tokens ++ (flat_map (origin_text plan) origins ++ codes "\n")))

-- the same of a packet whose tokens tell where they came from: its terminator tells where it came from
abbrev pub received_text : Plan → List ℕ → List Traced → List ℕ
received_text plan name piece = packet_line plan name (map (λ (x : Traced). x.token) piece) (origins_in piece)

-- the lines of all whole packets of these tokens
abbrev pub packets_text : Plan → List ℕ → List Traced → List ℕ
packets_text plan name arrived = flat_map (received_text plan name) (whole_pieces (λ (x : Traced). x.token) [] arrived)

-- the lines of these terminals of a network, the first of which has this number
abbrev pub terminals_text : Plan → Network Traced → ℕ → List Terminal → List ℕ
terminals_text plan net number [] = []
terminals_text plan net number (terminal ∷ more) =
    packets_text plan terminal.name (arrived_at net number) ++ terminals_text plan net (suc number) more

-- the summary: for each terminal in order, each whole packet that arrived there, in order. Where it came from is
-- told by its own tokens, in the same run over tokens that tell where they came from.
unfoldable pub summary : FinishedRecord → List ℕ
summary run = terminals_text run.finished.plan (traced_end run) 0 run.finished.plan.terminals

-- a byte of a packet: its two hexadecimal digits, and the space behind them
abbrev pub byte_word : ℕ → List ℕ
byte_word byte = hex_digit (byte / 16) ∷ hex_digit (byte % 16) ∷ 32 ∷ []

-- the text of a line that is kept
abbrev pub line_text : Plan → SummaryLine → List ℕ
line_text plan line =
    packet_line plan (terminal_name plan line.terminal) (packet_tokens line.packet) (option_to_list line.origin)

-- the texts of several, one after the other
abbrev pub lines_text : Plan → List SummaryLine → List ℕ
lines_text plan lines = flat_map (line_text plan) lines

-- what follows the answers, and whether a script was refused: for its length, or for one of its lines
abbrev pub output_with_summary : Bool → List ℕ × Session → List ℕ × Bool
output_with_summary true r = (r.0 ++ script_too_long, true)
output_with_summary false r = (r.0 ++ summary (record_finish r.1.net), r.1.faulty)

-- what a run on the network of a plan with an image shows, and whether any of it was refused: the answers to
-- the script, line by line, and the summary
abbrev pub run_output : Plan → Image → List ℕ → List ℕ × Bool
run_output plan image script =
    output_with_summary (is_long script) (script_outcome line_outcome (new_session plan image) script)
