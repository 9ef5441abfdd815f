-- The two phases of packets' ways. Where random headers are put before a terminal's packets, they go by a random one from
-- its input up to a portal, and by their own headers from there on. Where none are, they go by their own from its input.
--     IsReachedAsOwn routes h p, IsTakenAsOwn routes h q      in the phase by own headers, h may come to input p, and leave such an input by link q
--     IsReachedAsRandom routes r p, IsTakenAsRandom routes r q      the same in the phase by random headers
--     IsDiscardedAt routes r q      and there it may be discarded, at portal q
use Rattle.c104_check.specs.{Checks.{IsRefusedAt, Shown, fault_of}, FirstWalks.IsFirstWalk, Reach.MayTake, Routes.{Homes, IsEntryOf}}
use Rattle.c104_check.specs.Routes.{IsPortal, IsRandomAt, IsRandomIn, IsRandomized, Lands, LandsBehind, Reaches, Routes, SwitchPort}
use Rattle.c104_check.specs.{Routes.{header_count, most_hops, owner, select}, Shown.IsShownRandom, Walks.{WalkFault, is_met}}
use Rattle.c104_check.specs.declared.{faults.CheckFault.CheckFault, walks.Goal.TheVariants.Portal}
use Rattle.c104_interval.specs.declared.intervals.Select.TheVariants.{Discard}
use Rattle.std.specs.Prelude.{Bool, List, None, Some, false, length, true, ℕ, ◌+◌, ◌<◌, ◌↔◌, ◌≡◌, ◌⊎◌}

-- own headers that come in at an entry begin at input p: there, where no random headers are put before them, and else
-- behind it, at each portal
abbrev pub Begins : Routes → SwitchPort → Bool → SwitchPort → Type 0
Begins routes entry false p = (p ≡ entry) × (IsRandomized routes entry → ⊥)
Begins routes entry true p = IsPortal routes entry p

-- those of terminal t's packets do
abbrev pub BeginsAt : Routes → ℕ → Bool → SwitchPort → Type 0
BeginsAt routes t behind p = (entry : SwitchPort) × IsEntryOf routes t entry × Begins routes entry behind p

-- those of some terminal's packets
abbrev pub IsBeginning : Routes → SwitchPort → Type 0
IsBeginning routes p = (t : ℕ) × (behind : Bool) × BeginsAt routes t behind p

-- r may be put before packets that come in at input p, the input of a terminal
abbrev pub IsRandomBeginning : Routes → ℕ → SwitchPort → Type 0
IsRandomBeginning routes r p = (t : ℕ) × IsEntryOf routes t p × IsRandomAt routes p r

-- header h may come to input p over some wires, from one of these
abbrev pub IsReachedFrom : Routes → ℕ → (SwitchPort → Type 0) → SwitchPort → Type 0
IsReachedFrom routes h from p = (x : SwitchPort) × (m : ℕ) × from x × Reaches routes h m x p

-- and leave such an input by link q
abbrev pub IsTakenFrom : Routes → ℕ → (SwitchPort → Type 0) → SwitchPort → Type 0
IsTakenFrom routes h from q = (p : SwitchPort) × IsReachedFrom routes h from p × MayTake routes h p q

-- as the own header of packets
abbrev pub IsReachedAsOwn : Routes → ℕ → SwitchPort → Type 0
IsReachedAsOwn routes h p = IsReachedFrom routes h (IsBeginning routes) p

abbrev pub IsTakenAsOwn : Routes → ℕ → SwitchPort → Type 0
IsTakenAsOwn routes h q = IsTakenFrom routes h (IsBeginning routes) q

-- as a random one
abbrev pub IsReachedAsRandom : Routes → ℕ → SwitchPort → Type 0
IsReachedAsRandom routes r p = IsReachedFrom routes r (IsRandomBeginning routes r) p

abbrev pub IsTakenAsRandom : Routes → ℕ → SwitchPort → Type 0
IsTakenAsRandom routes r q = IsTakenFrom routes r (IsRandomBeginning routes r) q

-- it may be discarded at input q, so that packets go on by their own headers: q is a portal of it
abbrev pub IsDiscardedAt : Routes → ℕ → SwitchPort → Type 0
IsDiscardedAt routes r q = IsReachedAsRandom routes r q × (select routes q.switch q.link r ≡ Some Discard)

-- What is told of own headers that don't come where they should

-- what is to become of header h where own headers begin
abbrev pub LandsOwn : Routes → ℕ → Bool → SwitchPort → Type 0
LandsOwn routes h false p = Lands routes h p (owner routes h)
LandsOwn routes h true q = LandsBehind routes h q (owner routes h)

-- it comes where it should from where own headers of the first n terminals begin
abbrev pub LandsFirst : Routes → ℕ → ℕ → Type 0
LandsFirst routes h n = (t : ℕ) (behind : Bool) (p : SwitchPort) → t < n → BeginsAt routes t behind p → LandsOwn routes h behind p

-- as a random header it comes to a portal from the inputs of the first n terminals, where it may be one
abbrev pub HomesFirst : Routes → ℕ → ℕ → Type 0
HomesFirst routes h n = (t : ℕ) (p : SwitchPort) → t < n → IsEntryOf routes t p → IsRandomAt routes p h → Homes routes h (most_hops routes) p.switch p.link

-- both of all terminals; and what is no header of the network is refused nowhere
abbrev pub IsNeverRefused : Routes → ℕ → Type 0
IsNeverRefused routes h =
    h < header_count routes → LandsFirst routes h (length routes.ranges) × HomesFirst routes h (length routes.ranges)

-- where own headers of a terminal begin it is refused
pub record IsOwnRefusal (routes : Routes) (h : ℕ) (why : WalkFault) (shown : Shown) : Type 0 where
  pub behind : Bool
  pub start : SwitchPort
  pub begins : BeginsAt routes shown.entry behind start
  -- behind a portal a random header without an owner may do what it likes
  pub not_spared : owner routes h ≡ None → behind ≡ true → IsRandomIn routes h → ⊥
  pub refused : IsRefusedAt routes start why shown

-- as a random header it doesn't come from a terminal's input to a portal, and the walk shows why
pub record IsRandomRefusal (routes : Routes) (h : ℕ) (why : WalkFault) (shown : Shown) : Type 0 where
  pub entry : SwitchPort
  pub wired : IsEntryOf routes shown.entry entry
  pub random : IsRandomAt routes entry h
  pub shows : IsShownRandom routes h entry why shown.walk
  pub first : IsFirstWalk routes h (Some Portal) entry why shown.walk
  pub fails : (k : ℕ) → Homes routes h k entry.switch entry.link → ⊥

-- a header of the network is refused at none of the terminals before, and at this one it is: as a random header first
pub record IsFirstRefusal (routes : Routes) (h : ℕ) (why : WalkFault) (shown : Shown) : Type 0 where
  pub below : h < header_count routes
  pub header : shown.header ≡ h
  pub own_before : LandsFirst routes h shown.entry
  pub random_before : HomesFirst routes h shown.entry
  pub here : IsRandomRefusal routes h why shown ⊎ (HomesFirst routes h (shown.entry + 1) × IsOwnRefusal routes h why shown)

-- a fault tells how it is
abbrev pub TellsFirst : Routes → ℕ → CheckFault → Type 0
TellsFirst routes h fault =
    (why : WalkFault) × (shown : Shown) × (fault ≡ fault_of why shown) × IsFirstRefusal routes h why shown

-- Inputs as they are found

-- an input is among these
abbrev pub Has : List SwitchPort → SwitchPort → Type 0
Has inputs p = is_met p inputs ≡ true

-- these are just the inputs of which this holds
abbrev pub AreJust : (SwitchPort → Type 0) → List SwitchPort → Type 0
AreJust P inputs = (p : SwitchPort) → Has inputs p ↔ P p
