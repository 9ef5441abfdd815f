-- The tree that the code holds, as a forest, and why there is none.
use Rattle.c104_label.specs.{Forests.{Forest, IsCutOff, child, empty, ends_of, is_met}, declared.faults.LabelFault.LabelFault}
use Rattle.{c104_label.specs.declared.forests.{FarEnd.FarEnd, Forest.TheVariants.{Child', Empty}}, c104_plan.specs.Plans.Plan}
use Rattle.c104_plan.specs.declared.ports.Port.{Port}
use Rattle.std.specs.Prelude.{List, None, Option, Some, if◌then◌else◌, length, ℕ, ◌<◌}
use Rattle.c104_label.specs.declared.forests.Forest as kept

abbrev pub forest_of : kept.Forest → Forest
forest_of Empty = empty
forest_of (Child' link switch back p below q rest) = child link switch back (forest_of below) (forest_of rest)

-- why a plan has no tree of all its switches from a root: wires don't lead to one of them, or memory ran out,
-- of which nothing is said
abbrev pub IsTreeCause : Plan → ℕ → LabelFault → Type 0
IsTreeCause plan root LabelFault.NotConnected = (s : ℕ) × (s < length plan.switches) × IsCutOff (ends_of plan) root s
IsTreeCause plan root LabelFault.TooManyLabels = ⊥
IsTreeCause plan root LabelFault.WrongShape = ⊥
IsTreeCause plan root LabelFault.NoMemory = Unit {0}
IsTreeCause plan root LabelFault.BadGroups = ⊥

-- the far end of a link, where that is a switch which wasn't visited
abbrev pub unvisited : Option Port → List ℕ → Option FarEnd
unvisited None seen = None
unvisited (Some (Port.Terminal t)) seen = None
unvisited (Some (Port.Switch r b)) seen = if is_met seen r then None else Some (record { switch = r; back = b })
