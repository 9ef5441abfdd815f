-- Inputs that are met, and marks at their places.
use Rattle.{c104_check.specs.{Routes.{SwitchPort, place}, Walks.is_met}, c104_regs.specs.declared.registers.TheConstants.LINKS}
use Rattle.std.specs.Prelude.{Bool, List, false, if◌then◌else◌, length, nat_lt, slice_index_or, slice_set, true, ◌&&◌, ◌/◌, ◌<◌, ◌≡◌}

-- the places of inputs that have marks
abbrev pub HasMark : List Bool → SwitchPort → Type 0
HasMark marks p = (p.link < LINKS) × (p.switch < length marks / LINKS)

-- each such input is marked if it is among these
abbrev pub AreMarks : List Bool → List SwitchPort → Type 0
AreMarks marks inputs = (p : SwitchPort) → HasMark marks p → slice_index_or marks (place p) false ≡ is_met p inputs

abbrev pub with_mark : List Bool → SwitchPort → List Bool
with_mark marks p = if nat_lt p.link LINKS && nat_lt p.switch (length marks / LINKS) then slice_set marks (place p) true else marks
