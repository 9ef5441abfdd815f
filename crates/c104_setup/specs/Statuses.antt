-- How a command ends, and the exit status that stands for it.
use Rattle.{c104_setup.specs.declared.status.Status.Status, c104_stream.specs.declared.halt.Halt.Halt}
use Rattle.std.specs.Prelude.{ℕ}

-- the number says what was read
abbrev pub halt_status : Halt → ℕ → Status
halt_status Halt.CannotRead number = Status.CannotRead number
halt_status Halt.CannotWrite number = Status.CannotWrite
halt_status Halt.NoMemory number = Status.NoMemory

-- the program's exit status
abbrev pub exit_code : Status → ℕ
exit_code Status.Done = 0
exit_code Status.Refused = 1
exit_code (Status.CannotRead number) = 3
exit_code Status.CannotWrite = 3
exit_code Status.NoMemory = 4
