-- What a check prints.
use Rattle.c104_check.specs.{CheckFaults.{check_fault_name, check_fault_number}, Routes.to_port, declared.faults.CheckFault.CheckFault}
use Rattle.{c104_check.specs.declared.{faults.Shown.Shown, ports.SwitchPort.SwitchPort}, c104_plan.specs.{Plans.Plan, PortTexts.port_text}}
use Rattle.c104_plan.specs.PortTexts.{terminal_name}
use Rattle.std.specs.{Fmt.decimal, Prelude.{List, [], codes, flat_map, ℕ, ◌++◌, ◌∷◌}}

-- the line of labels that are accepted
abbrev pub accepted_text : List ℕ
accepted_text = codes "accepted\n"

-- an input of a walk, after a space
abbrev pub spaced_port : Plan → SwitchPort → List ℕ
spaced_port plan p = 0x20 ∷ port_text plan (to_port p)

-- a header that goes wrong: the terminal that it comes from, the header, and the inputs that it meets
abbrev pub shown_text : Plan → Shown → List ℕ
shown_text plan shown =
    codes "from " ++ (terminal_name plan shown.entry ++ (codes " header " ++ (decimal shown.header ++ (codes " walk" ++ flat_map (spaced_port plan) shown.walk))))

-- where a fault is; out of memory has no place
abbrev pub check_fault_place : Plan → CheckFault → List ℕ
check_fault_place plan (CheckFault.RangesOverlap t u) = terminal_name plan t ++ (codes " " ++ terminal_name plan u)
check_fault_place plan (CheckFault.LabelTooLarge t) = terminal_name plan t
check_fault_place plan (CheckFault.MixedHeaders p) = port_text plan (to_port p)
check_fault_place plan (CheckFault.DeleteInside p) = port_text plan (to_port p)
check_fault_place plan (CheckFault.RandomInside p) = port_text plan (to_port p)
check_fault_place plan (CheckFault.WrongEnd shown) = shown_text plan shown
check_fault_place plan (CheckFault.DeadEnd shown) = shown_text plan shown
check_fault_place plan (CheckFault.Loop shown) = shown_text plan shown
check_fault_place plan (CheckFault.Stray shown) = shown_text plan shown
check_fault_place plan CheckFault.NoMemory = []

-- the line of labels that are refused, by the names of the plan
abbrev pub check_fault_text : Plan → CheckFault → List ℕ
check_fault_text plan why =
    codes "refused " ++ (decimal (check_fault_number why) ++ (codes " " ++ (check_fault_name why ++ (codes ": " ++ (check_fault_place plan why ++ codes "\n")))))
