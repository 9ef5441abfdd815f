-- Where a header may come from all terminals, and by which links it may go on.
--     IsReached routes h p      header h may come to input p from some terminal
--     IsTaken routes h q      and by link q it may leave such an input
use Rattle.c104_check.specs.{Routes.{IsEntryOf, Routes, SwitchPort, header_count, is_in_group, select}, Shown.Follows, Trails.Checked}
use Rattle.c104_check.specs.{Trails.{IsInput, Reaches, routes_in}, Walks.{is_met, is_port, port_of}}
use Rattle.{c104_crossbar.specs.declared.group.Group.Group, c104_interval.specs.declared.intervals.Select.TheVariants.Link}
use Rattle.{c104_plan.specs.declared.ports.Port.Port, c104_regs.specs.declared.registers.TheConstants.LINKS}
use Rattle.std.specs.{List.{AllByRecursion, IsDistinct}, Prelude.{List, None, Option, Some, [], if◌then◌else◌, length, nat_le, slice_get}}
use Rattle.std.specs.Prelude.{true, ℕ, ◌&&◌, ◌++◌, ◌<◌, ◌∷◌, ◌≡◌, ◌≤◌}

-- a header in the network of an image for a plan
pub record NetworkHeader : Type 0 where
  pub checked : Checked
  pub header : ℕ

-- what of the network decides where the header goes
abbrev pub routes_for : NetworkHeader → Routes
routes_for header = routes_in header.checked

-- header h may come to input p over some wires, from the input of some terminal
abbrev pub IsReached : Routes → ℕ → SwitchPort → Type 0
IsReached routes h p =
    (t : ℕ) × (entry : SwitchPort) × (m : ℕ) × IsEntryOf routes t entry × Reaches routes h m entry p

-- it may leave input p by link q of the same switch: it is a header of the network, and selects the link's group
abbrev pub MayTake : Routes → ℕ → SwitchPort → SwitchPort → Type 0
MayTake routes h p q =
    (g : ℕ) × (h < header_count routes) × (p.switch ≡ q.switch) × (select routes p.switch p.link h ≡ Some (Link g)) × (is_in_group routes p.switch g q.link ≡ true)

-- it may leave by link q some input to which it may come
abbrev pub IsTaken : Routes → ℕ → SwitchPort → Type 0
IsTaken routes h q = (p : SwitchPort) × IsReached routes h p × MayTake routes h p q

-- inputs of the network, none of them twice
pub record AreDistinctInputs (routes : Routes) (inputs : List SwitchPort) : Type 0 where
  pub inside : AllByRecursion (IsInput (length routes.settings)) inputs
  pub once : IsDistinct is_port inputs

-- the inputs to which the header may go from p are
abbrev pub HaveFollowers : Routes → ℕ → List SwitchPort → SwitchPort → Type 0
HaveFollowers routes h inputs p = (q : SwitchPort) → Follows routes h p q → is_met q inputs ≡ true

-- and those from each of the first inputs that are done
abbrev pub HaveAllFollowers : Routes → ℕ → List SwitchPort → ℕ → Type 0
HaveAllFollowers routes h inputs done =
    (k : ℕ) (p : SwitchPort) → k < done → slice_get inputs k ≡ Some p → HaveFollowers routes h inputs p

-- inputs to which others were added behind, of which this holds
abbrev pub IsLongerBy : (SwitchPort → Type 0) → List SwitchPort → List SwitchPort → Type 0
IsLongerBy P old new = (more : List SwitchPort) × (new ≡ old ++ more) × AllByRecursion P more

-- an input joins others, unless it is among them
abbrev pub with_input : List SwitchPort → SwitchPort → List SwitchPort
with_input inputs p = if is_met p inputs then inputs else inputs ++ p ∷ []

-- and so does what a link is wired to, where that is an input
abbrev pub with_peer : List SwitchPort → Option Port → List SwitchPort
with_peer inputs None = inputs
with_peer inputs (Some (Port.Terminal t)) = inputs
with_peer inputs (Some (Port.Switch s i)) = with_input inputs (port_of s i)

-- a group of links is the one that a header selects at an input
pub record IsSelected (routes : Routes) (h : ℕ) (p : SwitchPort) (group : Group) : Type 0 where
  pub link : ℕ
  pub selects : select routes p.switch p.link h ≡ Some (Link link)
  pub members : (o : ℕ) → is_in_group routes p.switch link o ≡ (nat_le group.first o && nat_le o group.last)
  pub in_order : group.first ≤ group.last
  pub below : group.last < LINKS
