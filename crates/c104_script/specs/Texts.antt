-- What is printed: tokens, replies, refusals and faults.
pub use Rattle.c104_script.specs.declared.answers.{Answer.Answer, Settled.Settled}
use Rattle.{c104_event.specs.EventFaults.{event_fault_name, event_fault_number}, c104_script.specs.Findings.{byte_text, fault_words}}
use Rattle.c104_script.specs.{Findings.finding_text, declared.answers.Answer.TheVariants.{Faulty, Found, Refused, Replied}}
use Rattle.{c104_script.specs.declared.faults.LineFault.LineFault, c104_switch.specs.{Actions.Reply, declared.actions.ReplyOf.ReplyOf}}
use Rattle.c104_token.specs.{Text.mark_word, declared.tokens.{Mark.Mark, Token.Token}}
use Rattle.std.specs.{Fmt.decimal, Prelude.{List, None, Option, Some, [], codes, flat_map, ℕ, ◌++◌, ◌∷◌}}

-- the number that is printed
abbrev pub line_fault_number : LineFault → ℕ
line_fault_number LineFault.LineTooLong = 1
line_fault_number LineFault.UnknownWord = 2
line_fault_number LineFault.BadShape = 3
line_fault_number LineFault.BadNumber = 4
line_fault_number LineFault.BadHex = 5
line_fault_number LineFault.NoEnd = 6
line_fault_number LineFault.AfterEnd = 7
line_fault_number LineFault.PacketTooLong = 8
line_fault_number LineFault.NoMemory = 9
line_fault_number LineFault.NoLabel = 10

-- the name that is printed
abbrev pub line_fault_name : LineFault → List ℕ
line_fault_name LineFault.LineTooLong = codes "LineTooLong"
line_fault_name LineFault.UnknownWord = codes "UnknownWord"
line_fault_name LineFault.BadShape = codes "BadShape"
line_fault_name LineFault.BadNumber = codes "BadNumber"
line_fault_name LineFault.BadHex = codes "BadHex"
line_fault_name LineFault.NoEnd = codes "NoEnd"
line_fault_name LineFault.AfterEnd = codes "AfterEnd"
line_fault_name LineFault.PacketTooLong = codes "PacketTooLong"
line_fault_name LineFault.NoMemory = codes "NoMemory"
line_fault_name LineFault.NoLabel = codes "NoLabel"

-- a token: a byte, or its terminator's word
abbrev pub token_text : Token → List ℕ
token_text (Token.Byte byte) = byte_text byte
token_text Token.Eop = mark_word Mark.Eop
token_text Token.Eom = mark_word Mark.Eom

-- a byte of a reply to a command, after a space
abbrev pub spaced_byte : ℕ → List ℕ
spaced_byte byte = 32 ∷ byte_text byte

-- what a reply to an event is printed as
abbrev pub reply_text : Reply → List ℕ
reply_text ReplyOf.Done = codes "done"
reply_text ReplyOf.NotReady = codes "not ready"
reply_text (ReplyOf.Token x) = codes "token " ++ token_text x
reply_text (ReplyOf.Control bytes) = codes "control" ++ flat_map spaced_byte bytes

-- what is printed of rounds that went on until the network stood still, or were as many as there may be
abbrev pub settled_text : Settled → List ℕ
settled_text (Settled.Done rounds) = codes "done " ++ decimal rounds
settled_text (Settled.StandsStill rounds) = codes "stands still " ++ decimal rounds
settled_text (Settled.Moving rounds) = codes "moving " ++ decimal rounds

-- what an answer is printed as: a reply, what rounds ended with, what was found, or a refusal or a line's fault by its number and name
abbrev pub answer_text : Answer → List ℕ
answer_text (Replied r) = reply_text r
answer_text (Refused kind) = codes "refused " ++ fault_words (event_fault_number kind) (event_fault_name kind)
answer_text (Answer.Settled it) = settled_text it
answer_text (Found it) = finding_text it
answer_text (Faulty kind) = codes "fault " ++ fault_words (line_fault_number kind) (line_fault_name kind)

-- the line of an answer, by the number of the line that it answers
abbrev pub answer_line : ℕ → Answer → List ℕ
answer_line number answer = decimal number ++ (codes ": " ++ (answer_text answer ++ codes "\n"))

-- what is shown of a line of this number: the line of its answer, if it has one
abbrev pub shown : ℕ → Option Answer → List ℕ
shown number None = []
shown number (Some answer) = answer_line number answer
