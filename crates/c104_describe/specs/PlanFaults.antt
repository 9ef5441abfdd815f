-- The faults of a description.
pub use Rattle.c104_describe.specs.declared.faults.{PlanFault.PlanFault, PlanFaultKind.PlanFaultKind}
use Rattle.std.specs.{Fmt.decimal, Prelude.{List, codes, ℕ, ◌++◌}}

-- the number that is printed
abbrev pub plan_fault_number : PlanFaultKind → ℕ
plan_fault_number PlanFaultKind.TooLong = 1
plan_fault_number PlanFaultKind.UnknownWord = 2
plan_fault_number PlanFaultKind.BadShape = 3
plan_fault_number PlanFaultKind.BadNumber = 4
plan_fault_number PlanFaultKind.BadName = 5
plan_fault_number PlanFaultKind.NameTaken = 6
plan_fault_number PlanFaultKind.UnknownName = 7
plan_fault_number PlanFaultKind.SelfWire = 8
plan_fault_number PlanFaultKind.LinkTaken = 9
plan_fault_number PlanFaultKind.TooMany = 10
plan_fault_number PlanFaultKind.Twice = 11
plan_fault_number PlanFaultKind.MixedStyle = 12
plan_fault_number PlanFaultKind.NoMemory = 13

-- the name that is printed
abbrev pub plan_fault_name : PlanFaultKind → List ℕ
plan_fault_name PlanFaultKind.TooLong = codes "TooLong"
plan_fault_name PlanFaultKind.UnknownWord = codes "UnknownWord"
plan_fault_name PlanFaultKind.BadShape = codes "BadShape"
plan_fault_name PlanFaultKind.BadNumber = codes "BadNumber"
plan_fault_name PlanFaultKind.BadName = codes "BadName"
plan_fault_name PlanFaultKind.NameTaken = codes "NameTaken"
plan_fault_name PlanFaultKind.UnknownName = codes "UnknownName"
plan_fault_name PlanFaultKind.SelfWire = codes "SelfWire"
plan_fault_name PlanFaultKind.LinkTaken = codes "LinkTaken"
plan_fault_name PlanFaultKind.TooMany = codes "TooMany"
plan_fault_name PlanFaultKind.Twice = codes "Twice"
plan_fault_name PlanFaultKind.MixedStyle = codes "MixedStyle"
plan_fault_name PlanFaultKind.NoMemory = codes "NoMemory"

-- out of memory, at whatever line
abbrev pub no_memory : PlanFault
no_memory = record { line = 0; kind = PlanFaultKind.NoMemory }

-- a fault of a line; out of memory belongs to no line
abbrev pub fault_at : ℕ → PlanFaultKind → PlanFault
fault_at line PlanFaultKind.NoMemory = no_memory
fault_at line kind = record { line = line; kind = kind }

-- the line of a refused description
abbrev pub description_text : PlanFault → List ℕ
description_text fault = codes "description " ++ (decimal fault.line ++ (codes ": " ++ (decimal (plan_fault_number fault.kind) ++ (codes " " ++ (plan_fault_name fault.kind ++ codes "\n")))))
