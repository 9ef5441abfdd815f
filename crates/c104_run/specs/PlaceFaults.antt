-- Why a network is not made: the numbers of the faults.
use Rattle.c104_run.specs.declared.faults.PlaceFault.{PlaceFault}
use Rattle.std.specs.Prelude.{ℕ}

-- the number of a fault
abbrev pub place_fault_number : PlaceFault → ℕ
place_fault_number PlaceFault.NotFitting = 1
place_fault_number PlaceFault.NoMemory = 2
