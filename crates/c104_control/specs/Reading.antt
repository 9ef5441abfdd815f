-- Reading a command, and an answer.
use Rattle.c104_control.specs.{Faults.CommandFault, Table.{Answer, Command, device_id}, declared.commands.Command.TheVariants.CPeek}
use Rattle.c104_control.specs.declared.commands.Command.TheVariants.{CPoke, Identify, Reset, Start}
use Rattle.c104_control.specs.declared.{faults.CommandFault.TheVariants.{UnknownCode, WrongLength}, replies.Answer.TheVariants.Identity}
use Rattle.c104_control.specs.declared.replies.{Answer.TheVariants.{Poked, Refused, Started, Value, WasReset}, TheConstants.ALREADY_STARTED}
use Rattle.std.specs.{Int.{from_le_bytes, w16, w32}, Prelude.{Err, List, None, Ok, Option, Result, Some, [], if◌then◌else◌, nat_le, ℕ}}
use Rattle.std.specs.Prelude.{◌&&◌, ◌==◌, ◌∷◌}

-- a command of one byte has no arguments
abbrev pub alone : Command → List ℕ → Result Command CommandFault
alone c [] = Ok c
alone c (b ∷ arguments) = Err WrongLength

-- a peek, by its arguments
abbrev pub peek_of : List ℕ → Result Command CommandFault
peek_of (low ∷ high ∷ []) = Ok (CPeek (from_le_bytes w16 (low ∷ high ∷ [])))
peek_of arguments = Err WrongLength

-- a poke, by its arguments
abbrev pub poke_of : List ℕ → Result Command CommandFault
poke_of (low ∷ high ∷ a ∷ b ∷ c ∷ d ∷ []) =
    Ok (CPoke (from_le_bytes w16 (low ∷ high ∷ [])) (from_le_bytes w32 (a ∷ b ∷ c ∷ d ∷ [])))
poke_of arguments = Err WrongLength

-- the command that these bytes are, or why they are none
abbrev pub read_command : List ℕ → Result Command CommandFault
read_command [] = Err WrongLength
read_command (code ∷ arguments) =
    if code == 0x01 then alone Start arguments
    else (if code == 0x02 then alone Reset arguments
    else (if code == 0x03 then alone Identify arguments
    else (if code == 0x04 then peek_of arguments
    else (if code == 0x05 then poke_of arguments
    else Err UnknownCode))))

-- an answer of one byte
abbrev pub answer_alone : Answer → List ℕ → Option Answer
answer_alone a [] = Some a
answer_alone a (b ∷ arguments) = None

-- an answer with a number in four bytes
abbrev pub answer_with : (ℕ → Option Answer) → List ℕ → Option Answer
answer_with f (a ∷ b ∷ c ∷ d ∷ []) = f (from_le_bytes w32 (a ∷ b ∷ c ∷ d ∷ []))
answer_with f arguments = None

-- the device's number, and no other
abbrev pub identity_of : ℕ → Option Answer
identity_of n = if n == device_id then Some (Identity n) else None

-- a refusal, by what follows its first byte
abbrev pub refused_of : List ℕ → Option Answer
refused_of (n ∷ []) = if nat_le 1 n && nat_le n ALREADY_STARTED then Some (Refused n) else None
refused_of arguments = None

-- the answer that these bytes are, if they are one
abbrev pub read_reply : List ℕ → Option Answer
read_reply [] = None
read_reply (code ∷ arguments) =
    if code == 0x81 then answer_alone Started arguments
    else (if code == 0x82 then answer_alone WasReset arguments
    else (if code == 0x83 then answer_with identity_of arguments
    else (if code == 0x84 then answer_with (λ v. Some (Value v)) arguments
    else (if code == 0x85 then answer_alone Poked arguments
    else (if code == 0xff then refused_of arguments
    else None)))))
