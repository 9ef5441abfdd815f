-- Steps of the loader and of the debugger: a command that is asked, what its reply tells, and the fault where it is
-- answered otherwise.
use Rattle.c104_control.specs.{Reading.read_reply, Table.{IsAnswerTo, command_format, device_id, reply_bytes}}
use Rattle.c104_control.specs.declared.commands.Command.{Command, TheVariants.{CPeek, CPoke, Identify, Reset, Start}}
use Rattle.c104_control.specs.declared.replies.Answer.{Answer, TheVariants.{Identity, Poked, Refused, Started, Value, WasReset}}
use Rattle.{c104_event.specs.declared.faults.EventFault.EventFault, c104_tools.specs.declared.faults.LoadFault.LoadFault}
use Rattle.std.specs.{List.list_any, Prelude.{Bool, Err, IsTrue, List, None, Ok, Option, Result, Some, if◌then◌else◌, ℕ, ◌==◌, ◌≡◌, ◌≢◌}}

-- a step: a command for a switch and, where it is a peek, what is to be read
pub record Step : Type 0 where
  pub switch : ℕ
  pub command : Command
  pub value : ℕ

-- the register that a refusal names: that of a peek or a poke, and of the start the one that tells it
abbrev pub named_address : Command → ℕ
named_address Start = 0x0001
named_address (CPeek a) = a
named_address (CPoke a v) = a
named_address c = 0x0000

-- whether a refusal of this number is an answer to a command
abbrev pub may_refuse : Command → ℕ → Bool
may_refuse c number = list_any (λ m. m == number) (command_format c).refusals

-- what an answer to a command tells: the value that a peek read, and 0 where another command was done
abbrev pub told_value : Command → Answer → Option ℕ
told_value Start Started = Some 0
told_value Reset WasReset = Some 0
told_value Identify (Identity n) = if n == device_id then Some 0 else None
told_value (CPeek a) (Value v) = Some v
told_value (CPoke a v) Poked = Some 0
told_value c a = None

-- a value, or else the fault of a reply that is no answer to its command
abbrev pub value_or_bad : ℕ → Option ℕ → Result ℕ LoadFault
value_or_bad switch None = Err (LoadFault.BadReply switch)
value_or_bad switch (Some v) = Ok v

-- what comes of what a switch answered to a command, if it was an answer
abbrev pub judged : ℕ → Command → Option Answer → Result ℕ LoadFault
judged switch c None = Err (LoadFault.BadReply switch)
judged switch c (Some (Refused n)) =
    if may_refuse c n then Err (LoadFault.Refused switch (named_address c) n) else Err (LoadFault.BadReply switch)
judged switch c (Some a) = value_or_bad switch (told_value c a)

-- what a port gave for a command: the bytes of a reply, or no reply
abbrev pub Given : Type 0
Given = Result (List ℕ) EventFault

-- what that tells of a command of a switch: the value that it read, or 0; or why it failed
abbrev pub told : ℕ → Command → Given → Result ℕ LoadFault
told switch c (Ok bytes) = judged switch c (read_reply bytes)
told switch c (Err e) = Err (LoadFault.Port e)

-- what a reply tells is what the table of commands has it say: a command is done by its own answer, refused by a
-- refusal that it can meet, and badly replied to where no answer to it has these bytes
abbrev pub IsMeant : ℕ → Command → List ℕ → Result ℕ LoadFault → Type 0
IsMeant switch c reply (Ok v) = reply ≡ reply_bytes ((command_format c).answer v)
IsMeant switch c reply (Err (LoadFault.Refused s a n)) =
    (s ≡ switch) × (a ≡ named_address c) × IsTrue (may_refuse c n) × (reply ≡ reply_bytes (Refused n))
IsMeant switch c reply (Err (LoadFault.BadReply s)) =
    (s ≡ switch) × ((a : Answer) → IsAnswerTo c a → reply_bytes a ≢ reply)
IsMeant switch c reply (Err f) = ⊥
