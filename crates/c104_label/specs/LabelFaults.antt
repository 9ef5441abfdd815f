-- The faults of labellings.
pub use Rattle.c104_label.specs.declared.faults.LabelFault.{LabelFault}
use Rattle.std.specs.Prelude.{List, codes, ℕ}

-- the number that is printed
abbrev pub label_fault_number : LabelFault → ℕ
label_fault_number LabelFault.NotConnected = 1
label_fault_number LabelFault.TooManyLabels = 2
label_fault_number LabelFault.WrongShape = 3
label_fault_number LabelFault.NoMemory = 4
label_fault_number LabelFault.BadGroups = 5

-- the name that is printed
abbrev pub label_fault_name : LabelFault → List ℕ
label_fault_name LabelFault.NotConnected = codes "NotConnected"
label_fault_name LabelFault.TooManyLabels = codes "TooManyLabels"
label_fault_name LabelFault.WrongShape = codes "WrongShape"
label_fault_name LabelFault.NoMemory = codes "NoMemory"
label_fault_name LabelFault.BadGroups = codes "BadGroups"
