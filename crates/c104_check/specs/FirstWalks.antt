-- A walk that is told is the first in depth-first order: walks are compared by the links that they take.
--     GoesWrong routes h t why walk links met p      a header that has met inputs up to p goes wrong over these links
--     TakesLower links others      where two walks part, the one takes the lower link
--     IsFirstWalk routes h goal p why walk      from input p this walk goes wrong, and none before it does
--     NoneGoesWrong routes h goal p      none from there does
use Rattle.c104_check.specs.{Routes.{Homes, Lands, Routes, SwitchPort, is_in_group, most_hops, owner, select}, Shown.IsForeign}
use Rattle.c104_check.specs.{Shown.IsPortalFor, Trails.IsInput, Walks.{Goal, WalkFault, is_met, port_of}}
use Rattle.c104_check.specs.declared.{faults.WalkFault.TheVariants.{DeadEnd, Loop, Stray, WrongEnd}, walks.Goal.TheVariants.{Owner, Portal}}
use Rattle.{c104_interval.specs.declared.intervals.Select.TheVariants.{Link, Sink}, c104_plan.specs.declared.ports.Port.Port}
use Rattle.std.specs.Prelude.{List, None, Option, Some, [], false, length, option_map, true, ℕ, ◌++◌, ◌<◌, ◌↔◌, ◌∷◌, ◌≡◌, ◌≢◌, ◌⊎◌}

-- header h may leave from input p by link o of the same switch, one of the group that it selects
abbrev pub MayLeaveBy : Routes → ℕ → SwitchPort → ℕ → Type 0
MayLeaveBy routes h p o =
    (g : ℕ) × (select routes p.switch p.link h ≡ Some (Link g)) × (is_in_group routes p.switch g o ≡ true)

-- it selects no link at p, which isn't where it should come
abbrev pub IsStuck : Routes → ℕ → Goal → SwitchPort → Type 0
IsStuck routes h t p =
    ((g : ℕ) → select routes p.switch p.link h ≢ Some (Link g)) × (IsPortalFor routes h t p → ⊥)

-- a header that has met these inputs goes wrong over what a link is wired to, and takes these links after it: it is
-- wired to nothing, or to a terminal where the header shouldn't come, or to an input that it has met, and no more are
-- taken; or to an input that it hasn't met, and from there the next holds. The walk is all inputs that it meets.
abbrev pub GoesWrongOver : (List SwitchPort → SwitchPort → Type 0) → Goal → WalkFault → List SwitchPort → List ℕ → List SwitchPort → Option Port → Type 0
GoesWrongOver next t why walk links met None = (links ≡ []) × (why ≡ DeadEnd) × (walk ≡ met)
GoesWrongOver next t why walk links met (Some (Port.Terminal u)) =
    (links ≡ []) × (why ≡ WrongEnd) × (walk ≡ met) × IsForeign t u
GoesWrongOver next t why walk links met (Some (Port.Switch s i)) =
    ((links ≡ []) × (why ≡ Loop) × (walk ≡ met ++ (port_of s i ∷ [])) × (is_met (port_of s i) met ≡ true))
    ⊎ ((is_met (port_of s i) met ≡ false) × next (met ++ (port_of s i ∷ [])) (port_of s i))

-- a header that has met inputs, the last of them p, goes wrong over these links, one of each input from p on; without
-- any it is stuck there
abbrev pub GoesWrong : Routes → ℕ → Goal → WalkFault → List SwitchPort → List ℕ → List SwitchPort → SwitchPort → Type 0
GoesWrong routes h t why walk [] met p = (why ≡ DeadEnd) × (walk ≡ met) × IsStuck routes h t p
GoesWrong routes h t why walk (o ∷ links) met p =
    MayLeaveBy routes h p o × GoesWrongOver (GoesWrong routes h t why walk links) t why walk links met (routes.peer (Port.Switch p.switch o))

-- the same from input p, where its walk begins. One that should come nowhere is to be dropped there.
abbrev pub GoesWrongFrom : Routes → ℕ → Option Goal → SwitchPort → WalkFault → List SwitchPort → List ℕ → Type 0
GoesWrongFrom routes h None p why walk links =
    (links ≡ []) × (why ≡ Stray) × (walk ≡ p ∷ []) × (select routes p.switch p.link h ≢ Some Sink)
GoesWrongFrom routes h (Some t) p why walk links = GoesWrong routes h t why walk links (p ∷ []) p

-- at the first input where two walks take different links, the one takes the lower link
abbrev pub TakesLower : List ℕ → List ℕ → Type 0
TakesLower [] others = ⊥
TakesLower (o ∷ links) [] = ⊥
TakesLower (o ∷ links) (l ∷ others) = (o < l) ⊎ ((o ≡ l) × TakesLower links others)

-- a header with this goal, if it has one, goes wrong from input p with this fault by this walk, which is the first that
-- does: depth first, the lower link of a group before the higher
pub record IsFirstWalk (routes : Routes) (h : ℕ) (goal : Option Goal) (p : SwitchPort) (why : WalkFault) (walk : List SwitchPort) : Type 0 where
  -- the links by which the header goes from each input of the walk, the last of them the one that leads wrong; where it
  -- selects no link at the last input, none from there
  pub links : List ℕ
  -- over these it goes wrong so
  pub goes_wrong : GoesWrongFrom routes h goal p why walk links
  -- and in no way over any others that take a lower link where they part from these
  pub none_before : (others : List ℕ) (fault : WalkFault) (other : List SwitchPort) →
      TakesLower others links → GoesWrongFrom routes h goal p fault other others → ⊥

-- none of its walks from there goes wrong
abbrev pub NoneGoesWrong : Routes → ℕ → Option Goal → SwitchPort → Type 0
NoneGoesWrong routes h goal p =
    (why : WalkFault) (walk : List SwitchPort) (links : List ℕ) → GoesWrongFrom routes h goal p why walk links → ⊥

-- what walks that go wrong tell of a network
pub record IsToldByWalks (routes : Routes) : Type 0 where
  -- from an input of it a header comes where it should exactly where none of its walks goes wrong
  pub lands : (h : ℕ) (p : SwitchPort) → IsInput (length routes.settings) p →
      Lands routes h p (owner routes h) ↔ NoneGoesWrong routes h (option_map Owner (owner routes h)) p
  -- and as a random one to portals
  pub homes : (r : ℕ) (p : SwitchPort) → IsInput (length routes.settings) p →
      Homes routes r (most_hops routes) p.switch p.link ↔ NoneGoesWrong routes r (Some Portal) p
  -- and one alone of its walks from there is the first
  pub one_first : (h : ℕ) (goal : Option Goal) (p : SwitchPort) (why fault : WalkFault) (walk other : List SwitchPort) →
      IsFirstWalk routes h goal p why walk → IsFirstWalk routes h goal p fault other → (fault ≡ why) × (other ≡ walk)
