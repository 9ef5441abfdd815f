-- What `cycles` prints of channel dependencies, by the names of a plan.
use Rattle.c104_check.specs.{Routes.to_port, declared.{cycles.ChannelDependency.ChannelDependency, edges.DependencyEdge.DependencyEdge}}
use Rattle.{c104_check.specs.declared.ports.SwitchPort.SwitchPort, c104_plan.specs.{Plans.Plan, PortTexts.port_text}}
use Rattle.std.specs.{Fmt.decimal, Prelude.{List, codes, flat_map, ℕ, ◌++◌, ◌∷◌}}

-- the line of a network without a cycle
abbrev pub acyclic_text : List ℕ
acyclic_text = codes "acyclic\n"

-- an input, and the header by which it depends on another
abbrev pub dependency_text : Plan → SwitchPort → ℕ → List ℕ
dependency_text plan p header = port_text plan (to_port p) ++ (codes "(" ++ (decimal header ++ codes ")"))

-- an input of a cycle, after a space
abbrev pub spaced_dependency : Plan → ChannelDependency → List ℕ
spaced_dependency plan d = 0x20 ∷ dependency_text plan d.input d.header

-- the line of a cycle: each input with the header by which it depends on the next; the last depends on the first
abbrev pub cycle_text : Plan → List ChannelDependency → List ℕ
cycle_text plan cycle = codes "cycle" ++ (flat_map (spaced_dependency plan) cycle ++ codes "\n")

-- the line of a dependency: the input with the header, and the input on which it depends
abbrev pub edge_text : Plan → DependencyEdge → List ℕ
edge_text plan e = dependency_text plan e.input e.header ++ (codes " " ++ (port_text plan (to_port e.next) ++ codes "\n"))

-- the lines of dependencies
abbrev pub edges_text : Plan → List DependencyEdge → List ℕ
edges_text plan edges = flat_map (edge_text plan) edges
