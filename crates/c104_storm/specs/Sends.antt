-- What the lines of a storm's script ask, and what a network answers: those of a script that begin with `send`.
use Rattle.{c104_event.specs.declared.{events.Event.Event, faults.EventFault.EventFault}, c104_plan.specs.{PlanImage.Image, Plans.Plan}}
use Rattle.{c104_plan.specs.TextCut.{line_words, uncommented_line}, c104_run.specs.NetRecords.{NetRecord, fresh_record}}
use Rattle.{c104_run.specs.{Network.placed_network, RecordedRuns.record_apply}, c104_script.specs.{Answering.shown_by, Script.most_line}}
use Rattle.c104_script.specs.{Script.read_script_line, declared.answers.Answer.{Answer, TheVariants.{Faulty, Refused, Replied}}}
use Rattle.c104_script.specs.declared.{faults.LineFault.LineFault, places.Request.Request}
use Rattle.{c104_storm.specs.declared.sends.Sending.Sending, c104_switch.specs.Actions.Reply}
use Rattle.std.specs.Prelude.{Bool, Err, List, None, Ok, Option, Result, Some, bytes_eq, codes, false, if◌then◌else◌, length, nat_le, not}
use Rattle.std.specs.Prelude.{slice_get, true, ℕ, ◌&&◌, ◌||◌}

-- a first word that isn't `send`
abbrev pub is_another : Option (List ℕ) → Bool
is_another None = false
is_another (Some word) = not (bytes_eq word (codes "send"))

-- a line has words, and begins with another than `send`
abbrev pub begins_otherwise : List ℕ → Bool
begins_otherwise line = is_another (slice_get (line_words (uncommented_line line)) 0)

-- what a line asks, or what is wrong with it: an unknown word where it begins otherwise, unless it is too long
abbrev pub read_send_line : Plan → Image → List ℕ → Result (Option Request) LineFault
read_send_line plan image line =
    if nat_le (length line) most_line && begins_otherwise line then Err LineFault.UnknownWord
    else read_script_line plan image line

-- what answers an event
abbrev pub event_answer : Result Reply EventFault → Answer
event_answer (Ok reply) = Replied reply
event_answer (Err kind) = Refused kind

-- what answers an event that is asked, and the network after it
abbrev pub event_outcome : NetRecord → Event → Answer × NetRecord
event_outcome net event = let r = record_apply net event in (event_answer r.0, r.1)

-- what answers a request, and the network after it: only an event may be asked
abbrev pub request_answer : NetRecord → Request → Answer × NetRecord
request_answer net (Request.Asked event) = event_outcome net event
request_answer net (Request.Rounds count is_fair seed) = (Faulty LineFault.UnknownWord, net)
request_answer net Request.Settle = (Faulty LineFault.UnknownWord, net)
request_answer net (Request.Probed it) = (Faulty LineFault.UnknownWord, net)
request_answer net (Request.Refused kind) = (Refused kind, net)

-- the same of a line that was read so: it has no answer where it has no words
abbrev pub answer_of_read : NetRecord → Result (Option Request) LineFault → Option Answer × NetRecord
answer_of_read net (Ok None) = (None, net)
answer_of_read net (Ok (Some request)) = let r = request_answer net request in (Some r.0, r.1)
answer_of_read net (Err kind) = (Some (Faulty kind), net)

-- what answers a line, and the network after it
abbrev pub send_answer : NetRecord → Image → List ℕ → Option Answer × NetRecord
send_answer net image line = answer_of_read net (read_send_line net.network.plan image line)

-- whether an answer is that a line is faulty
abbrev pub tells_fault : Option Answer → Bool
tells_fault (Some (Faulty kind)) = true
tells_fault answer = false

-- the network of a plan with an image, before the first line
abbrev pub new_sending : Plan → Image → Sending
new_sending plan image = record { net = fresh_record (placed_network plan image); image = image; is_faulty = false }

-- what answers a line, and the sending after it: its network, and whether a line was faulty so far
unfoldable pub sending_answer : Sending → List ℕ → Option Answer × Sending
sending_answer sending line =
    let r = send_answer sending.net sending.image line in
    (r.0, record { net = r.1; image = sending.image; is_faulty = tells_fault r.0 || sending.is_faulty })

-- what a line of this number shows, and the sending after it
unfoldable pub send_outcome : ℕ → Sending → List ℕ → List ℕ × Sending
send_outcome = shown_by sending_answer
