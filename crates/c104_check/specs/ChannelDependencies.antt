-- Channel dependencies. A channel is named by the input that reads it. One depends on another
-- where a packet that came in at the one may have to wait until what came in at the other has gone on. Where random
-- headers are put before packets, the packets go in two phases: by a random header to a portal, and from there by their
-- own. The dependencies are those of both. Behind a portal the ways of labels alone are counted: a random header that
-- nobody owns has no ways there, since a terminal whose packets get random headers sends none of them as a packet's own
-- (MayBeSent, in c104_net).
--     MayComeBy routes h p      a packet that goes by header h may come to input p
--     Depends routes p q      input p depends on input q
--     IsAcyclic routes      there are ranks of the inputs that fall along every dependency
--     IsCycle routes dependencies      inputs each of which depends on the next, and the last on the first
use Rattle.c104_check.specs.{Parts.{IsBeginning, IsRandomBeginning, IsReachedFrom}, Reach.IsReached, Routes.{IsRandomized, Routes}}
use Rattle.c104_check.specs.{Routes.{SwitchPort, owner}, Shown.Follows}
use Rattle.std.specs.Prelude.{List, Some, [], length, ℕ, ◌*◌, ◌<◌, ◌↔◌, ◌∷◌, ◌≡◌, ◌≤◌, ◌⊎◌}
-- an input, and a header by which it depends on the next
pub use Rattle.c104_check.specs.declared.cycles.ChannelDependency.{ChannelDependency}

-- packets begin to go by header h at input p: it is a label, and they begin there by their own headers; or it is a
-- random header that may be put before them there
abbrev pub IsBeginningBy : Routes → ℕ → SwitchPort → Type 0
IsBeginningBy routes h p = ((t : ℕ) × (owner routes h ≡ Some t) × IsBeginning routes p) ⊎ IsRandomBeginning routes h p

-- a packet that goes by header h may come to input p, over some wires
abbrev pub MayComeBy : Routes → ℕ → SwitchPort → Type 0
MayComeBy routes h p = IsReachedFrom routes h (IsBeginningBy routes h) p

-- and go on over one wire to input q
abbrev pub DependsBy : Routes → ℕ → SwitchPort → SwitchPort → Type 0
DependsBy routes h p q = MayComeBy routes h p × Follows routes h p q

-- some header may. A group of links gives a dependency over each of them, since a packet may take any.
abbrev pub Depends : Routes → SwitchPort → SwitchPort → Type 0
Depends routes p q = (h : ℕ) × DependsBy routes h p q

-- random headers are put before packets at no input: packets go by their own headers alone, from the entries of all
-- terminals on
abbrev pub IsNeverRandomized : Routes → Type 0
IsNeverRandomized routes = (p : SwitchPort) → IsRandomized routes p → ⊥

-- a label may come to input p from the input of some terminal, and go on over one wire to input q
abbrev pub GoesByLabel : Routes → ℕ → SwitchPort → SwitchPort → Type 0
GoesByLabel routes h p q = (t : ℕ) × (owner routes h ≡ Some t) × IsReached routes h p × Follows routes h p q

-- some label may
abbrev pub DependsByLabels : Routes → SwitchPort → SwitchPort → Type 0
DependsByLabels routes p q = (h : ℕ) × GoesByLabel routes h p q

-- without random headers the dependencies are those by labels alone
abbrev pub AreByLabels : Routes → Type 0
AreByLabels routes = IsNeverRandomized routes → (p q : SwitchPort) → Depends routes p q ↔ DependsByLabels routes p q

-- ranks of the inputs, which fall along every dependency
abbrev pub IsRanking : Routes → (SwitchPort → ℕ) → Type 0
IsRanking routes rank = (p q : SwitchPort) → Depends routes p q → rank q < rank p

-- none of the ranks is above a limit
abbrev pub AreRanksWithin : ℕ → (SwitchPort → ℕ) → Type 0
AreRanksWithin limit rank = (p : SwitchPort) → rank p ≤ limit

-- how many inputs the switches have
abbrev pub input_count : Routes → ℕ
input_count routes = 32 * length routes.settings

-- there are such ranks, none above the count of inputs
abbrev pub IsAcyclic : Routes → Type 0
IsAcyclic routes = (rank : SwitchPort → ℕ) × IsRanking routes rank × AreRanksWithin (input_count routes) rank

-- each depends on the next by its header, and the last on this input
abbrev pub AreChained : Routes → ChannelDependency → List ChannelDependency → SwitchPort → Type 0
AreChained routes a [] end = DependsBy routes a.header a.input end
AreChained routes a (b ∷ more) end = DependsBy routes a.header a.input b.input × AreChained routes b more end

-- there are some, each depends on the next by its header, and the last on the first
abbrev pub IsCycle : Routes → List ChannelDependency → Type 0
IsCycle routes [] = ⊥
IsCycle routes (a ∷ more) = AreChained routes a more a.input

-- a cycle leaves no ranks
abbrev pub AreNeverBoth : Routes → Type 0
AreNeverBoth routes = (cycle : List ChannelDependency) → IsCycle routes cycle → IsAcyclic routes → ⊥
