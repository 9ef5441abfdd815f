-- The faults of the loader and of the debugger.
pub use Rattle.c104_tools.specs.declared.faults.LoadFault.{LoadFault}
use Rattle.std.specs.Prelude.{List, codes, ℕ}

-- the number that is answered
abbrev pub load_fault_number : LoadFault → ℕ
load_fault_number (LoadFault.Refused switch addr number) = 1
load_fault_number (LoadFault.Differs switch addr found) = 2
load_fault_number LoadFault.NoSwitch = 3
load_fault_number (LoadFault.Port e) = 4
load_fault_number (LoadFault.BadReply switch) = 5

-- the name that is printed
abbrev pub load_fault_name : LoadFault → List ℕ
load_fault_name (LoadFault.Refused switch addr number) = codes "Refused"
load_fault_name (LoadFault.Differs switch addr found) = codes "Differs"
load_fault_name LoadFault.NoSwitch = codes "NoSwitch"
load_fault_name (LoadFault.Port e) = codes "Port"
load_fault_name (LoadFault.BadReply switch) = codes "BadReply"
