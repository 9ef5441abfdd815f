-- The faults of an address and a value.
pub use Rattle.c104_regs.specs.declared.faults.RegFault.{RegFault}
use Rattle.c104_regs.specs.declared.faults.RegFault.TheVariants.{Busy, NoRegister, OutOfRange, ReadOnly}
use Rattle.std.specs.Prelude.{List, codes, ℕ}

-- the number that is answered
abbrev pub register_fault_number : RegFault → ℕ
register_fault_number NoRegister = 3
register_fault_number ReadOnly = 4
register_fault_number OutOfRange = 5
register_fault_number Busy = 6

-- the name that is printed
abbrev pub register_fault_name : RegFault → List ℕ
register_fault_name NoRegister = codes "NoRegister"
register_fault_name ReadOnly = codes "ReadOnly"
register_fault_name OutOfRange = codes "OutOfRange"
register_fault_name Busy = codes "Busy"
