-- The table of commands: the bytes of each, and the answers to it with theirs. Addresses have two bytes
-- and values four, low byte first.
--     command_format c      the table's line of command c
--     reply_bytes a      the bytes of answer a
--     IsAnswerTo c a      a is an answer to command c
pub use Rattle.c104_control.specs.declared.{commands.Command.Command, replies.Answer.Answer}
use Rattle.c104_control.specs.declared.commands.Command.TheVariants.{CPeek, CPoke, Identify, Reset, Start}
use Rattle.c104_control.specs.declared.replies.Answer.TheVariants.{Identity, Poked, Refused, Started, Value, WasReset}
use Rattle.c104_control.specs.declared.replies.TheConstants.{ALREADY_STARTED, DEVICE_ID}
use Rattle.std.specs.{Int.{to_le_bytes, w16, w32}, List.list_any, Prelude.{IsTrue, List, [], ℕ, ◌++◌, ◌<◌, ◌==◌, ◌^◌, ◌∷◌, ◌≡◌, ◌≢◌, ◌≤◌}}
use Rattle.std.specs.Prelude.{◌⊎◌}

-- the number of the device, 0x0000C104
abbrev pub device_id : ℕ
device_id = DEVICE_ID

-- why a switch refuses a peek or a poke: no register has the address
abbrev pub no_register_number : ℕ
no_register_number = 3

-- why it refuses a poke: the register can't be set
abbrev pub read_only_number : ℕ
read_only_number = 4

-- the same: the register doesn't take the value
abbrev pub out_of_range_number : ℕ
out_of_range_number = 5

-- the same: the link's mode can't be set while a packet is on its way through the link
abbrev pub busy_number : ℕ
busy_number = 6

-- a line of the table: a command's first byte and those that follow, what is answered where it is done,
-- by the value that it reads if it does, and the numbers of the refusals that it may meet
pub record CommandFormat : Type 0 where
  pub code : ℕ
  pub arguments : List ℕ
  pub answer : ℕ → Answer
  pub refusals : List ℕ

-- the table
abbrev pub command_format : Command → CommandFormat
command_format Start = record {
  code = 0x01;
  arguments = [];
  answer = λ v. Started;
  refusals = ALREADY_STARTED ∷ [];
}
command_format Reset = record { code = 0x02; arguments = []; answer = λ v. WasReset; refusals = [] }
command_format Identify = record { code = 0x03; arguments = []; answer = λ v. Identity device_id; refusals = [] }
command_format (CPeek a) = record {
  code = 0x04;
  arguments = to_le_bytes w16 a;
  answer = Value;
  refusals = no_register_number ∷ [];
}
command_format (CPoke a v) = record {
  code = 0x05;
  arguments = to_le_bytes w16 a ++ to_le_bytes w32 v;
  answer = λ v. Poked;
  refusals = no_register_number ∷ read_only_number ∷ out_of_range_number ∷ busy_number ∷ [];
}

-- the bytes of the answers
abbrev pub reply_bytes : Answer → List ℕ
reply_bytes Started = 0x81 ∷ []
reply_bytes WasReset = 0x82 ∷ []
reply_bytes (Identity n) = 0x83 ∷ to_le_bytes w32 n
reply_bytes (Value v) = 0x84 ∷ to_le_bytes w32 v
reply_bytes Poked = 0x85 ∷ []
reply_bytes (Refused n) = 0xff ∷ n ∷ []

-- the bytes of a command
abbrev pub command_bytes : Command → List ℕ
command_bytes c = (command_format c).code ∷ (command_format c).arguments

-- there is such a command: an address has 16 bits, and a value 32
abbrev pub IsCommand : Command → Type 0
IsCommand (CPeek a) = a < 2 ^ 16
IsCommand (CPoke a v) = (a < 2 ^ 16) × (v < 2 ^ 32)
IsCommand c = Unit {0}

-- an answer to a command: that it was done, with some value, or one of its refusals
abbrev pub IsAnswerTo : Command → Answer → Type 0
IsAnswerTo c a =
    ((v : ℕ) × (v < 2 ^ 32) × (a ≡ (command_format c).answer v))
    ⊎ ((n : ℕ) × IsTrue (list_any (λ m. m == n) (command_format c).refusals) × (a ≡ Refused n))

-- an answer to bytes that are no command: the number of their fault
abbrev pub IsRefusal : Answer → Type 0
IsRefusal a = (a ≡ Refused 1) ⊎ (a ≡ Refused 2)

-- an answer to some command, or to bytes that are none
abbrev pub IsAnswer : Answer → Type 0
IsAnswer a = ((c : Command) × IsCommand c × IsAnswerTo c a) ⊎ IsRefusal a

-- the same by the answer's own numbers: the device's, a value of 32 bits, and a refusal's, 1 to 7
abbrev pub IsReply : Answer → Type 0
IsReply (Identity n) = n ≡ device_id
IsReply (Value v) = v < 2 ^ 32
IsReply (Refused n) = (1 ≤ n) × (n ≤ ALREADY_STARTED)
IsReply a = Unit {0}

-- the first of these bytes is one with which no command begins
abbrev pub IsUnknownCode : List ℕ → Type 0
IsUnknownCode [] = ⊥
IsUnknownCode (b ∷ bytes) = (c : Command) → (command_format c).code ≢ b
