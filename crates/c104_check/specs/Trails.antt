-- What is known of a walk while it is walked.
pub use Rattle.c104_check.specs.Routes.{Reaches}
use Rattle.c104_check.specs.{Routes.{IsEntryOf, Routes, SwitchPort, routes_of, to_port}, Walks.{Goal, is_port, ways}}
use Rattle.c104_plan.specs.{PlanImage.{AreSettings, Image}, Plans.{Plan, most_switches}, declared.ports.Port.Port}
use Rattle.c104_regs.specs.declared.{registers.TheConstants.LINKS, settings.Settings.Settings}
use Rattle.std.specs.{List.{AllByRecursion, IsDistinct, range_with_len}, Prelude.{List, Option, Some, length, map, slice_get, ℕ, ◌-◌, ◌<◌}}
use Rattle.std.specs.Prelude.{◌≡◌, ◌≤◌}

-- a plan and an image that are checked, and what of them decides where packets go
pub record Checked : Type 0 where
  pub plan : Plan
  pub image : Image

abbrev pub routes_in : Checked → Routes
routes_in checked = routes_of checked.plan checked.image

-- an input of one of n switches
abbrev pub IsInput : ℕ → SwitchPort → Type 0
IsInput n p = (p.switch < n) × (p.link < LINKS)

-- what a run of count links from one on is wired to
abbrev pub run_peers : Routes → ℕ → ℕ → ℕ → List (Option Port)
run_peers routes s from count = map (λ o. routes.peer (Port.Switch s o)) (range_with_len from count)

-- header h may leave input p by the links from one up to an end, none of them past the switch's last
pub record AreWays (routes : Routes) (h : ℕ) (t : Goal) (p : SwitchPort) (first end : ℕ) : Type 0 where
  pub below : end ≤ LINKS
  pub are : ways routes h t p ≡ Some (run_peers routes p.switch first (end - first))

-- wires go both ways and lead to inputs of the network, what is set is within its ranges, and each terminal has an entry
pub record IsNetwork (routes : Routes) : Type 0 where
  pub back : (p q : Port) → routes.peer p ≡ Some q → routes.peer q ≡ Some p
  pub inputs : (p : Port) (q : SwitchPort) → routes.peer p ≡ Some (to_port q) → IsInput (length routes.settings) q
  pub settings : (s : ℕ) (all : List Settings) → slice_get routes.settings s ≡ Some all → AreSettings all
  pub few : length routes.settings ≤ most_switches
  pub terminals : (t : ℕ) (p : SwitchPort) → IsEntryOf routes t p → t < length routes.ranges

-- a walk up to p that meets no input twice
pub record IsTrail (routes : Routes) (h : ℕ) (walk : List SwitchPort) (p : SwitchPort) : Type 0 where
  pub reaches : AllByRecursion (λ x. (m : ℕ) × Reaches routes h m x p) walk
  pub inputs : AllByRecursion (IsInput (length routes.settings)) walk
  pub differ : IsDistinct is_port walk
