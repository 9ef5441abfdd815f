-- The dependencies of all inputs in a table: for each input, by place, and each link of its switch, the input that a
-- header may go on to over that link.
--     AreDependencies routes table      each that stands there is one
--     AreListedBelow routes table n      where there is one by a header below n, it stands there by no lower one
pub use Rattle.c104_check.specs.declared.dependencies.Dependency.{Dependency}
use Rattle.c104_check.specs.{ChannelDependencies.{DependsBy, MayComeBy}, Parts.{IsReachedAsOwn, IsReachedAsRandom}, Routes.Routes}
use Rattle.c104_check.specs.{Routes.{SwitchPort, owner, place, to_port}, Shown.Follows, Trails.IsInput, Walks.port_of}
use Rattle.std.specs.Prelude.{Bool, List, None, Option, Some, false, length, nat_le, slice_index_or, true, ℕ, ◌*◌, ◌+◌, ◌<◌, ◌≡◌, ◌≤◌}

abbrev pub dependency_at : List (Option Dependency) → ℕ → Option Dependency
dependency_at table k = slice_index_or table k None

-- where the dependency of an input over a link stands
abbrev pub dependency_place : SwitchPort → ℕ → ℕ
dependency_place p o = place p * 32 + o

-- a dependency of some input, over the link where it stands
abbrev pub IsDependencyAt : Routes → ℕ → Dependency → Type 0
IsDependencyAt routes k d = (p : SwitchPort) × (o : ℕ) × IsInput (length routes.settings) p × (o < 32) × (k ≡ dependency_place p o) × (routes.peer (to_port (port_of p.switch o)) ≡ Some (to_port d.next)) × DependsBy routes d.header p d.next

-- each that stands in the table is one
abbrev pub AreDependencies : Routes → List (Option Dependency) → Type 0
AreDependencies routes table = (k : ℕ) (d : Dependency) → dependency_at table k ≡ Some d → IsDependencyAt routes k d

-- there is one by a header that is h or higher
abbrev pub is_by_from : ℕ → Option Dependency → Bool
is_by_from h None = false
is_by_from h (Some d) = nat_le h d.header

-- all are by headers below a limit
abbrev pub AreByBelow : ℕ → List (Option Dependency) → Type 0
AreByBelow limit table = (k : ℕ) (d : Dependency) → dependency_at table k ≡ Some d → d.header < limit

-- one by such a header stands there for the input that a link leads to
abbrev pub IsListedOver : Routes → List (Option Dependency) → ℕ → SwitchPort → SwitchPort → Type 0
IsListedOver routes table h at link = (q : SwitchPort) → routes.peer (to_port link) ≡ Some (to_port q) → (link.link < 32) × (is_by_from h (dependency_at table (dependency_place at link.link)) ≡ true)

-- for each link of a switch from one up to another
abbrev pub AreListedFrom : Routes → List (Option Dependency) → ℕ → SwitchPort → ℕ → ℕ → Type 0
AreListedFrom routes table h at first end = (o : ℕ) → first ≤ o → o < end → IsListedOver routes table h at (port_of at.switch o)

-- for each way of a header on from an input
abbrev pub AreListedAt : Routes → List (Option Dependency) → ℕ → SwitchPort → Type 0
AreListedAt routes table h p = (q : SwitchPort) → (follows : Follows routes h p q) → (follows.1 < 32) × (is_by_from h (dependency_at table (dependency_place p follows.1)) ≡ true)

-- from each input to which packets may come that go by it
abbrev pub AreListedFor : Routes → List (Option Dependency) → ℕ → Type 0
AreListedFor routes table h = (p : SwitchPort) → MayComeBy routes h p → AreListedAt routes table h p

-- from those to which it may come as the own header of packets
abbrev pub AreListedAsOwn : Routes → List (Option Dependency) → ℕ → Type 0
AreListedAsOwn routes table h = (t : ℕ) (p : SwitchPort) → owner routes h ≡ Some t → IsReachedAsOwn routes h p → AreListedAt routes table h p

-- and from those to which it may come as a random one
abbrev pub AreListedAsRandom : Routes → List (Option Dependency) → ℕ → Type 0
AreListedAsRandom routes table h = (p : SwitchPort) → IsReachedAsRandom routes h p → AreListedAt routes table h p

-- for each header below n
abbrev pub AreListedBelow : Routes → List (Option Dependency) → ℕ → Type 0
AreListedBelow routes table n = (h : ℕ) → h < n → AreListedFor routes table h

-- a table before and after more dependencies were listed, by headers below a limit: where one stood, one stands by no
-- lower header
pub record IsExtended (routes : Routes) (limit : ℕ) (old new : List (Option Dependency)) : Type 0 where
  pub room : length new ≡ length old
  pub dependencies : AreDependencies routes old → AreDependencies routes new
  pub kept : (h k : ℕ) → is_by_from h (dependency_at old k) ≡ true → is_by_from h (dependency_at new k) ≡ true
  pub below : AreByBelow limit new
