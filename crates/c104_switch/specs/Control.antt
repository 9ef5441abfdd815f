-- Control commands: what each does, and what is answered. A refused command changes nothing.
use Rattle.c104_control.specs.{Reading.read_command, Table.{device_id, reply_bytes}, declared.commands.Command.{Command, TheVariants.CPeek}}
use Rattle.c104_control.specs.declared.{commands.Command.TheVariants.{CPoke, Identify, Reset, Start}, faults.CommandFault.CommandFault}
use Rattle.c104_control.specs.declared.replies.Answer.{Answer, TheVariants.{Identity, Poked, Refused, Started, Value, WasReset}}
use Rattle.{c104_control.specs.declared.replies.TheConstants.ALREADY_STARTED, c104_regs.specs.declared.faults.RegFault.RegFault}
use Rattle.c104_switch.specs.{Commands.{switch_poke, switch_reset, switch_start}, Peeks.switch_peek, Switch.Switch}
use Rattle.std.specs.Prelude.{Err, List, Ok, Result, if◌then◌else◌, ℕ}
use Rattle.c104_control.specs.Faults as command
use Rattle.c104_regs.specs.Faults as register

-- what is answered of a register that was to be read: its value, or the number of the fault
abbrev pub peek_answer : Result ℕ RegFault → Answer
peek_answer (Ok v) = Value v
peek_answer (Err e) = Refused (register.register_fault_number e)

-- what is answered of a register that was to be set: that it is, or the number of the fault
abbrev pub poke_answer : Result (Unit {0}) RegFault → Answer
poke_answer (Ok u) = Poked
poke_answer (Err e) = Refused (register.register_fault_number e)

-- what a command does, and its answer; a switch that is started already is not started again
abbrev pub switch_obey : {A : Type 0} → Switch A → Command → Answer × Switch A
switch_obey s Start = if s.started then (Refused ALREADY_STARTED, s) else (Started, switch_start s)
switch_obey s Reset = (WasReset, switch_reset s)
switch_obey s Identify = (Identity device_id, s)
switch_obey s (CPeek a) = (peek_answer (switch_peek s a), s)
switch_obey s (CPoke a v) = let r = switch_poke s a v in (poke_answer r.0, r.1)

-- the same of what was read: bytes that are no command are refused
abbrev pub switch_obey_if_read : {A : Type 0} → Switch A → Result Command CommandFault → Answer × Switch A
switch_obey_if_read s (Ok c) = switch_obey s c
switch_obey_if_read s (Err e) = (Refused (command.command_fault_number e), s)

-- the bytes of the reply to these bytes, and the switch after it
abbrev pub switch_control : {A : Type 0} → Switch A → List ℕ → List ℕ × Switch A
switch_control s bytes = let r = switch_obey_if_read s (read_command bytes) in (reply_bytes r.0, r.1)
