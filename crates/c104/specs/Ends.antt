-- The exit status of the program.
use Rattle.{c104.specs.declared.ends.End.End, c104_setup.specs.declared.status.Status.Status}
use Rattle.std.specs.Prelude.{ℕ}

-- 0 where all was done, 1 where something was refused, 2 for wrong usage, 3 where something can't be read or written, and 4 out
-- of memory
abbrev pub end_status : End → ℕ
end_status (End.Command Status.Done) = 0
end_status (End.Command Status.Refused) = 1
end_status End.WrongUsage = 2
end_status (End.Command (Status.CannotRead number)) = 3
end_status (End.Command Status.CannotWrite) = 3
end_status (End.Command Status.NoMemory) = 4
