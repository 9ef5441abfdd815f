-- Why a header is refused at an entry, as a relation: what one can see of a walk without computing any.
pub use Rattle.c104_check.specs.Routes.{Follows, MayLeave}
use Rattle.c104_check.specs.{Routes.{Arrives, Homes, Leads, Roams, Routes, SwitchPort, select}, Walks.{Goal, WalkFault, is_met}}
use Rattle.c104_check.specs.declared.{faults.WalkFault.TheVariants.{DeadEnd, Loop, Stray, WrongEnd}, walks.Goal.TheVariants.{Owner, Portal}}
use Rattle.{c104_interval.specs.declared.intervals.Select.TheVariants.{Discard, Link, Sink}, c104_plan.specs.declared.ports.Port.Port}
use Rattle.std.specs.Prelude.{List, None, Option, Some, [], false, true, ℕ, ⊤, ◌++◌, ◌∷◌, ◌≡◌, ◌≢◌, ◌⊎◌}

-- it should come to a portal, and p is one
abbrev pub IsPortalFor : Routes → ℕ → Goal → SwitchPort → Type 0
IsPortalFor routes h (Owner t) p = ⊥
IsPortalFor routes h Portal p = select routes p.switch p.link h ≡ Some Discard

-- it selects no link at p, which isn't where it should come, or a link of the group isn't wired
abbrev pub IsDead : Routes → ℕ → Goal → SwitchPort → Type 0
IsDead routes h t p =
    (((g : ℕ) → select routes p.switch p.link h ≢ Some (Link g)) × (IsPortalFor routes h t p → ⊥)) ⊎ MayLeave routes h p None

-- a terminal is one to which it should not come
abbrev pub IsForeign : Goal → ℕ → Type 0
IsForeign (Owner t) u = u ≢ t
IsForeign Portal u = ⊤

-- a link of the group leads to such a terminal
abbrev pub IsWrong : Routes → ℕ → Goal → SwitchPort → Type 0
IsWrong routes h t p = (u : ℕ) × IsForeign t u × MayLeave routes h p (Some (Port.Terminal u))

-- a walk that ends at p is refused by going on over these inputs. Each follows the one before, and none
-- was met before, but for the last where the fault is a loop; else the last is dead, or wrong.
abbrev pub IsRefused : Routes → ℕ → Goal → WalkFault → List SwitchPort → SwitchPort → List SwitchPort → Type 0
IsRefused routes h t fault walk p [] =
    (IsDead routes h t p × (fault ≡ DeadEnd)) ⊎ (IsWrong routes h t p × (fault ≡ WrongEnd))
IsRefused routes h t fault walk p (q ∷ more) =
    Follows routes h p q × (((is_met q walk ≡ true) × (more ≡ []) × (fault ≡ Loop)) ⊎ ((is_met q walk ≡ false) × IsRefused routes h t fault (walk ++ (q ∷ [])) q more))

-- the walk, which begins at the entry, shows that the header doesn't lead to its owner; or else that one
-- without an owner isn't dropped
abbrev pub IsShown : Routes → ℕ → SwitchPort → Option ℕ → WalkFault → List SwitchPort → Type 0
IsShown routes h p None fault walk =
    (select routes p.switch p.link h ≢ Some Sink) × (fault ≡ Stray) × (walk ≡ p ∷ [])
IsShown routes h p (Some t) fault walk =
    (more : List SwitchPort) × (walk ≡ p ∷ more) × IsRefused routes h (Owner t) fault (p ∷ []) p more

-- the same of a random header
abbrev pub IsShownRandom : Routes → ℕ → SwitchPort → WalkFault → List SwitchPort → Type 0
IsShownRandom routes r p fault walk =
    (more : List SwitchPort) × (walk ≡ p ∷ more) × IsRefused routes r Portal fault (p ∷ []) p more

-- a header comes where it should, over at most k switches
abbrev pub Comes : Routes → ℕ → Goal → ℕ → ℕ → ℕ → Type 0
Comes routes h (Owner t) = Leads routes h t
Comes routes h Portal = Homes routes h

-- and over what a link is wired to, where the next holds of an input
abbrev pub ComesBy : (ℕ → ℕ → Type 0) → Goal → Option Port → Type 0
ComesBy next (Owner t) e = Arrives next t e
ComesBy next Portal e = Roams next e
