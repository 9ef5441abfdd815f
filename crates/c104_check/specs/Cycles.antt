-- The search for a cycle of dependencies: ranks that are given to more and more inputs.
use Rattle.c104_check.specs.ChannelDependencies.{AreRanksWithin, Depends, DependsBy, IsCycle, IsRanking, input_count}
use Rattle.c104_check.specs.{Dependencies.{Dependency, dependency_at, dependency_place}, FirstCycles.{IsOver, LeadsToCycle}, Ranks.rank_at}
use Rattle.c104_check.specs.{Ranks.rank_in, Routes.{Routes, SwitchPort, place}, Trails.IsInput, declared.cycles.RanksOrCycle.RanksOrCycle}
use Rattle.c104_check.specs.declared.cycles.RanksOrCycle.TheVariants.{Cycle, Ranks}
use Rattle.std.specs.Prelude.{Bool, List, Option, Some, [], false, length, suc, true, zero, ℕ, ◌*◌, ◌+◌, ◌<◌, ◌↔◌, ◌∷◌, ◌≡◌, ◌≤◌}

-- ranks that fall along every dependency, none above the count of inputs; or a cycle
abbrev pub AreRanksOrCycle : Routes → RanksOrCycle → Type 0
AreRanksOrCycle routes (Ranks ranks) =
    IsRanking routes (rank_in ranks.by_place) × AreRanksWithin (input_count routes) (rank_in ranks.by_place)
AreRanksOrCycle routes (Cycle cycle) = IsCycle routes cycle.dependencies

-- each dependency of the table leads to an input that has a rank in the other
abbrev pub LeadInside : List (Option Dependency) → ℕ → Type 0
LeadInside table n = (k : ℕ) (d : Dependency) → dependency_at table k ≡ Some d → (place d.next < n) × (d.next.link < 32)

-- a dependency of the input at a place
abbrev pub IsDependencyOf : List (Option Dependency) → ℕ → Dependency → Type 0
IsDependencyOf table p d = (o : ℕ) × (o < 32) × (dependency_at table (p * 32 + o) ≡ Some d)

-- it leads to an input that has no rank yet
abbrev pub LeadsToUnranked : List (Option Dependency) → List ℕ → ℕ → Dependency → Type 0
LeadsToUnranked table ranks p d = IsDependencyOf table p d × (rank_in ranks d.next ≡ 0)

-- it is the first that does, by link
abbrev pub LeadsFirst : List (Option Dependency) → List ℕ → ℕ → Dependency → Type 0
LeadsFirst table ranks p d = (o : ℕ) × (o < 32) × (dependency_at table (p * 32 + o) ≡ Some d) × (rank_in ranks d.next ≡ 0)
    × ((u : ℕ) (e : Dependency) → u < o → dependency_at table (p * 32 + u) ≡ Some e → 0 < rank_in ranks e.next)

-- the input at a place depends on ranked inputs alone
abbrev pub AllLeadToRanked : List (Option Dependency) → List ℕ → ℕ → Type 0
AllLeadToRanked table ranks p = (d : Dependency) → IsDependencyOf table p d → 0 < rank_in ranks d.next

-- a table of all dependencies, each by the highest header, and ranks of the inputs from which none lead into a cycle
pub record AreAllRanked (routes : Routes) (table : List (Option Dependency)) (ranks : List ℕ) : Type 0 where
  pub most : (p : SwitchPort) (o h : ℕ) (d : Dependency) → IsInput (length routes.settings) p → o < 32 → dependency_at table (dependency_place p o) ≡ Some d → DependsBy routes h p d.next → h ≤ d.header
  pub listed : (p q : SwitchPort) (o : ℕ) → Depends routes p q → IsOver routes p o q → (d : Dependency) × (dependency_at table (dependency_place p o) ≡ Some d) × (d.next ≡ q)
  pub told : (p : SwitchPort) → IsInput (length routes.settings) p → (rank_in ranks p ≡ 0) ↔ LeadsToCycle routes p

-- how many inputs have no rank yet
abbrev pub unranked_count : List ℕ → ℕ
unranked_count [] = 0
unranked_count (zero ∷ ranks) = suc (unranked_count ranks)
unranked_count (suc _ ∷ ranks) = unranked_count ranks

-- ranks of some inputs: each that has one depends on inputs of lower ranks alone; and with the unranked inputs none
-- is above the count of inputs
pub record ArePartialRanks (table : List (Option Dependency)) (ranks : List ℕ) : Type 0 where
  pub falls : (p : ℕ) (d : Dependency) → 0 < rank_at ranks p → IsDependencyOf table p d → (0 < rank_in ranks d.next) × (rank_in ranks d.next < rank_at ranks p)
  pub low : (p : ℕ) → rank_at ranks p + unranked_count ranks ≤ length ranks

-- ranks before and after more inputs were ranked, if any were
pub record IsRankingPass (table : List (Option Dependency)) (old new : List ℕ) (more : Bool) : Type 0 where
  pub room : length new ≡ length old
  pub part : ArePartialRanks table new
  pub fewer : unranked_count new ≤ unranked_count old
  pub less : more ≡ true → unranked_count new < unranked_count old
  pub same : more ≡ false → new ≡ old
