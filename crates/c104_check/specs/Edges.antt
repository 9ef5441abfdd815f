-- The edges of the channel dependency graph, as a list.
--     AreAllEdges routes edges      they are the dependencies of the inputs on one another, all of them, each once and in order
pub use Rattle.c104_check.specs.declared.edges.DependencyEdge.{DependencyEdge}
use Rattle.c104_check.specs.{ChannelDependencies.Depends, Checks.ComesBefore, Dependencies.{Dependency, dependency_at}}
use Rattle.c104_check.specs.{FirstCycles.{DependsMostBy, IsOver}, Routes.{Routes, SwitchPort, port_at}}
use Rattle.c104_regs.specs.declared.registers.TheConstants.{LINKS}
use Rattle.std.specs.Prelude.{List, Option, Some, slice_get, ℕ, ◌/◌, ◌<◌, ◌≡◌, ◌⊎◌}

-- each is a dependency, by the highest header
abbrev pub AreEdges : Routes → List DependencyEdge → Type 0
AreEdges routes edges = (k : ℕ) (e : DependencyEdge) → slice_get edges k ≡ Some e → DependsMostBy routes e.header e.input e.next

-- there is one from an input to another
abbrev pub HasEdge : List DependencyEdge → SwitchPort → SwitchPort → Type 0
HasEdge edges p q = (k : ℕ) × (e : DependencyEdge) × (slice_get edges k ≡ Some e) × (e.input ≡ p) × (e.next ≡ q)

-- one comes before another: by input, and at one input by the link over which packets go on
abbrev pub IsBefore : Routes → DependencyEdge → DependencyEdge → Type 0
IsBefore routes e f = ComesBefore e.input f.input ⊎ ((e.input ≡ f.input) × ((o u : ℕ) × IsOver routes e.input o e.next × IsOver routes f.input u f.next × (o < u)))

-- each comes before those behind it
abbrev pub AreInOrder : Routes → List DependencyEdge → Type 0
AreInOrder routes edges = (k l : ℕ) (e f : DependencyEdge) → k < l → slice_get edges k ≡ Some e → slice_get edges l ≡ Some f → IsBefore routes e f

-- an input and another have one edge at most
abbrev pub IsEachOnce : List DependencyEdge → Type 0
IsEachOnce edges = (k l : ℕ) (e f : DependencyEdge) → slice_get edges k ≡ Some e → slice_get edges l ≡ Some f → e.input ≡ f.input → e.next ≡ f.next → k ≡ l

-- they are the dependencies of the inputs on one another, all of them, each once and in order
pub record AreAllEdges (routes : Routes) (edges : List DependencyEdge) : Type 0 where
  pub each : AreEdges routes edges
  pub all : (p q : SwitchPort) → Depends routes p q → HasEdge edges p q
  pub once : IsEachOnce edges
  pub in_order : AreInOrder routes edges

-- the edge of what stands in a table of dependencies
abbrev pub edge_of : ℕ → Dependency → DependencyEdge
edge_of k d = record { input = port_at (k / LINKS); next = d.next; header = d.header }

-- an edge is that of what stands at a place
abbrev pub IsEdgeOf : List (Option Dependency) → DependencyEdge → ℕ → Type 0
IsEdgeOf table e j = (d : Dependency) × (dependency_at table j ≡ Some d) × (e ≡ edge_of j d)

-- edges of what stands in a table before a place, all of them, by place
pub record AreEdgesBefore (table : List (Option Dependency)) (end : ℕ) (edges : List DependencyEdge) : Type 0 where
  pub each : (k : ℕ) (e : DependencyEdge) → slice_get edges k ≡ Some e → (j : ℕ) × (j < end) × IsEdgeOf table e j
  pub all : (j : ℕ) (d : Dependency) → j < end → dependency_at table j ≡ Some d → (k : ℕ) × (slice_get edges k ≡ Some (edge_of j d))
  pub in_order : (k l : ℕ) (e f : DependencyEdge) → k < l → slice_get edges k ≡ Some e → slice_get edges l ≡ Some f → (i j : ℕ) × (i < j) × IsEdgeOf table e i × IsEdgeOf table f j
