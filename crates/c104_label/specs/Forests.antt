-- The depth-first tree of a network's switches.
use Rattle.{c104_plan.specs.{Plans.Plan, Wiring.peer, declared.ports.Port.Port}, c104_regs.specs.declared.registers.TheConstants.LINKS}
use Rattle.std.specs.{List.{AllByRecursion, IsDistinct, list_any, range_with_len}, Prelude.{Bool, List, Option, Some, [], false, length}}
use Rattle.std.specs.Prelude.{suc, true, zero, ℕ, ◌++◌, ◌<◌, ◌==◌, ◌∷◌, ◌≡◌}

-- what each link of each switch is wired to, in a network and in a plan's
abbrev pub Ends : Type 0
Ends = ℕ → ℕ → Option Port

abbrev pub ends_of : Plan → Ends
ends_of plan s l = peer plan (Port.Switch s l)

-- the links of a switch
unfoldable pub links : List ℕ
links = range_with_len 0 LINKS

-- whether a number is in a list, as that of a switch which was visited
abbrev pub is_met : List ℕ → ℕ → Bool
is_met seen s = list_any (λ x. s == x) seen

-- the subtrees behind a switch's links, in the order of the links: behind this link lies a switch, the link of
-- which back to here is given, with its own subtrees below it; the others are the rest
pub data Forest : Type 0 where
  empty : Forest
  child : (link switch back : ℕ) (below rest : Forest) → Forest

-- the switches of a forest, in the order in which they are visited
abbrev pub switches : Forest → List ℕ
switches empty = []
switches (child l r b below rest) = (r ∷ switches below) ++ switches rest

-- if a wire on this link leads to a switch, that was visited
abbrev pub IsPassed : Ends → List ℕ → ℕ → ℕ → Type 0
IsPassed ends seen s l = (r b : ℕ) → ends s l ≡ Some (Port.Switch r b) → is_met seen r ≡ true

-- what a depth-first visit finds behind the links ls of s, taken in turn, where seen were visited before: the
-- first link with a wire to a switch that wasn't visited leads to the first subtree, in which a visit of that
-- switch has found its own; what it visited there counts for the links after
abbrev pub Grown : Ends → List ℕ → ℕ → List ℕ → Forest → Type 0
Grown ends seen s ls empty = AllByRecursion (IsPassed ends seen s) ls
Grown ends seen s ls (child l r b below rest) =
    (before : List ℕ) × (after : List ℕ) × (ls ≡ before ++ (l ∷ after)) × AllByRecursion (IsPassed ends seen s) before
    × (ends s l ≡ Some (Port.Switch r b)) × (is_met seen r ≡ false)
    × Grown ends (seen ++ (r ∷ [])) r links below
    × Grown ends ((seen ++ (r ∷ [])) ++ switches below) s after rest

-- the tree below a root
abbrev pub IsDepthFirst : Ends → ℕ → Forest → Type 0
IsDepthFirst ends root forest = Grown ends (root ∷ []) root links forest

-- a path of m wires leads from root to s
abbrev pub Wired : Ends → ℕ → ℕ → ℕ → Type 0
Wired ends root zero s = s ≡ root
Wired ends root (suc m) s =
    (r : ℕ) × (l : ℕ) × (b : ℕ) × Wired ends root m r × (is_met links l ≡ true) × (ends r l ≡ Some (Port.Switch s b))

-- no number of wires leads from root to s
abbrev pub IsCutOff : Ends → ℕ → ℕ → Type 0
IsCutOff ends root s = (m : ℕ) → Wired ends root m s → ⊥

-- wires lead from root to each switch of a plan
abbrev pub IsConnected : Plan → ℕ → Type 0
IsConnected plan root = (s : ℕ) → s < length plan.switches → (m : ℕ) × Wired (ends_of plan) root m s

-- what was visited are different switches of n
pub record AreSwitches (n : ℕ) (seen : List ℕ) : Type 0 where
  pub differ : IsDistinct (λ x y. x == y) seen
  pub below : (s : ℕ) → is_met seen s ≡ true → s < n

-- wires lead to switches of n alone
abbrev pub AreInside : Ends → ℕ → Type 0
AreInside ends n = (s l r b : ℕ) → ends s l ≡ Some (Port.Switch r b) → r < n

-- the depth-first tree of a plan from a root has all its switches
pub record IsSpanning (plan : Plan) (root : ℕ) (forest : Forest) : Type 0 where
  pub depth_first : IsDepthFirst (ends_of plan) root forest
  pub all : (s : ℕ) → s < length plan.switches → is_met (root ∷ switches forest) s ≡ true
