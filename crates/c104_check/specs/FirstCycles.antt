-- The cycle of channel dependencies that is told of a network: a single one.
--     LeadsToCycle routes p      from input p dependencies lead into a cycle
--     IsFirstCycle routes cycle      these are the cycle that is told
use Rattle.c104_check.specs.{ChannelDependencies.{ChannelDependency, Depends, DependsBy, IsCycle}, Checks.IsFirstLink, Routes.Routes}
use Rattle.c104_check.specs.{Routes.{SwitchPort, to_port}, Walks.is_port, declared.cycles.RanksOrCycle.{RanksOrCycle, TheVariants.Cycle}}
use Rattle.{c104_check.specs.declared.cycles.RanksOrCycle.TheVariants.Ranks, c104_plan.specs.declared.ports.Port.Port}
use Rattle.std.specs.{List.IsDistinct, Prelude.{List, Some, [], drop, position, suc, zero, ℕ, ⊤, ◌<◌, ◌∷◌, ◌≡◌, ◌≤◌}}

-- h is the highest header by which input p depends on input q
abbrev pub DependsMostBy : Routes → ℕ → SwitchPort → SwitchPort → Type 0
DependsMostBy routes h p q = DependsBy routes h p q × ((g : ℕ) → DependsBy routes g p q → g ≤ h)

-- link o of the switch of input p is wired to input q
abbrev pub IsOver : Routes → SwitchPort → ℕ → SwitchPort → Type 0
IsOver routes p o q = routes.peer (Port.Switch p.switch o) ≡ Some (to_port q)

-- from input p there is a way over k dependencies
abbrev pub LeadsOver : Routes → ℕ → SwitchPort → Type 0
LeadsOver routes zero p = ⊤
LeadsOver routes (suc k) p = (q : SwitchPort) × Depends routes p q × LeadsOver routes k q

-- there are ways over any number of them: so they come to some input again
abbrev pub LeadsToCycle : Routes → SwitchPort → Type 0
LeadsToCycle routes p = (k : ℕ) → LeadsOver routes k p

-- the way goes on from an input to input q: from there a cycle can be come to, and over no lower link can one be. The
-- header is the highest by which the input depends on q.
pub record GoesOn (routes : Routes) (a : ChannelDependency) (q : SwitchPort) : Type 0 where
  pub link : ℕ
  pub over : IsOver routes a.input link q
  pub most : DependsMostBy routes a.header a.input q
  pub leads : LeadsToCycle routes q
  pub lowest : (o : ℕ) (r : SwitchPort) → o < link → IsOver routes a.input o r → Depends routes a.input r → LeadsToCycle routes r → ⊥

-- the way from input p over these inputs to another
abbrev pub IsWay : Routes → SwitchPort → List ChannelDependency → SwitchPort → Type 0
IsWay routes p [] end = p ≡ end
IsWay routes p (a ∷ steps) end = (q : SwitchPort) × (a.input ≡ p) × GoesOn routes a q × IsWay routes q steps end

abbrev pub inputs_of : List ChannelDependency → List SwitchPort
inputs_of [] = []
inputs_of (a ∷ steps) = a.input ∷ inputs_of steps

-- the cycle that is told: the way from the first input from which dependencies lead into one, up to where it meets an
-- input again, without what is before that input
pub record IsFirstCycle (routes : Routes) (cycle : List ChannelDependency) : Type 0 where
  pub is_cycle : IsCycle routes cycle
  -- its inputs differ
  pub differ : IsDistinct is_port (inputs_of cycle)
  pub start : SwitchPort
  pub first : IsFirstLink (LeadsToCycle routes) start
  pub steps : List ChannelDependency
  pub again : SwitchPort
  pub way : IsWay routes start steps again
  pub once : IsDistinct is_port (inputs_of steps)
  pub before : ℕ
  pub met : position (λ (a : ChannelDependency). is_port again a.input) steps ≡ Some before
  pub rest : cycle ≡ drop before steps

-- a cycle that is found is the one that is told
abbrev pub IsFirstFound : Routes → RanksOrCycle → Type 0
IsFirstFound routes (Ranks ranks) = ⊤
IsFirstFound routes (Cycle cycle) = IsFirstCycle routes cycle.dependencies

-- there is no other
abbrev pub HasOneCycle : Routes → Type 0
HasOneCycle routes = (a b : List ChannelDependency) → IsFirstCycle routes a → IsFirstCycle routes b → a ≡ b
