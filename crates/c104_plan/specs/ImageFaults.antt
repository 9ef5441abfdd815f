-- The faults of what is set in an image.
pub use Rattle.c104_plan.specs.declared.image_faults.ImageFault.{ImageFault}
use Rattle.std.specs.Prelude.{List, codes, ℕ}

-- the number that is answered
abbrev pub image_fault_number : ImageFault → ℕ
image_fault_number ImageFault.NoNode = 1
image_fault_number (ImageFault.Register e) = 2
image_fault_number ImageFault.BadRange = 3
image_fault_number ImageFault.NoMemory = 4

-- the name that is printed
abbrev pub image_fault_name : ImageFault → List ℕ
image_fault_name ImageFault.NoNode = codes "NoNode"
image_fault_name (ImageFault.Register e) = codes "Register"
image_fault_name ImageFault.BadRange = codes "BadRange"
image_fault_name ImageFault.NoMemory = codes "NoMemory"
