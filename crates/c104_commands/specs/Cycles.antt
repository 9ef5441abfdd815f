-- What `cycles` prints of a network: whether packets can wait for one another in a cycle.
use Rattle.c104_check.specs.{ChannelDependencies.IsAcyclic, Edges.AreAllEdges, FirstCycles.IsFirstCycle, Routes.{IsAccepted, routes_of}}
use Rattle.c104_check.specs.declared.{cycles.ChannelDependency.ChannelDependency, edges.DependencyEdge.DependencyEdge}
use Rattle.{c104_commands.specs.{Checks.IsRefusedBy, CycleTexts.{acyclic_text, cycle_text, edges_text}}, c104_plan.specs.PlanImage.Image}
use Rattle.c104_plan.specs.Plans.{Plan}
use Rattle.std.specs.Prelude.{Bool, List, false, true, ℕ, ◌++◌, ◌≡◌, ◌⊎◌}

-- the line on a network, by whether it has a cycle: that it has none, or the one that is told
abbrev pub TellsCycle : Plan → Image → List ℕ → Bool → Type 0
TellsCycle plan image text false = (text ≡ acyclic_text) × IsAcyclic (routes_of plan image)
TellsCycle plan image text true =
    (cycle : List ChannelDependency) × IsFirstCycle (routes_of plan image) cycle × (text ≡ cycle_text plan cycle)

-- that line, and where all dependencies are asked for, before it a line for each of them
abbrev pub TellsCycles : Bool → Plan → Image → List ℕ → Bool → Type 0
TellsCycles false plan image text cyclic = TellsCycle plan image text cyclic
TellsCycles true plan image text cyclic = (edges : List DependencyEdge) × AreAllEdges (routes_of plan image) edges
    × ((line : List ℕ) × TellsCycle plan image line cyclic × (text ≡ edges_text plan edges ++ line))

-- the same of a network whose labels are accepted
abbrev pub TellsAccepted : Bool → Plan → Image → List ℕ → Bool → Type 0
TellsAccepted all plan image text cyclic = IsAccepted (routes_of plan image) × TellsCycles all plan image text cyclic

-- what `cycles` prints of a network, and whether the exit status is 1: where its labels are refused what `check`
-- prints, and else what is told of cycles
abbrev pub PrintsCycles : Bool → Plan → Image → List ℕ → Bool → Type 0
PrintsCycles all plan image text refused =
    (IsRefusedBy plan image text × (refused ≡ true)) ⊎ TellsAccepted all plan image text refused
