-- The faults of bytes that are no command.
pub use Rattle.c104_control.specs.declared.faults.CommandFault.{CommandFault}
use Rattle.c104_control.specs.declared.faults.CommandFault.TheVariants.{UnknownCode, WrongLength}
use Rattle.std.specs.Prelude.{List, codes, ℕ}

-- the number that a refusal of a command gives
abbrev pub command_fault_number : CommandFault → ℕ
command_fault_number UnknownCode = 1
command_fault_number WrongLength = 2

-- the name of a fault
abbrev pub command_fault_name : CommandFault → List ℕ
command_fault_name UnknownCode = codes "UnknownCode"
command_fault_name WrongLength = codes "WrongLength"
