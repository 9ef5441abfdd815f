-- The starts of terminals, in order.
use Rattle.c104_check.specs.{Breaks.IsWired, Checks.IsRandomRefused, FirstWalks.IsFirstWalk, Parts.{AreJust, BeginsAt, HomesFirst}}
use Rattle.c104_check.specs.{Parts.{IsReachedAsOwn, IsReachedAsRandom}, Portals.{met_from, portals_met}, Reach.with_input, Refusals.AllLand}
use Rattle.c104_check.specs.{Refusals.{Refusal, Start}, Routes.{Homes, IsEntryOf, IsPortal, IsRandomAt, IsRandomized, PortalLands, Reaches}}
use Rattle.c104_check.specs.{Routes.{Routes, SwitchPort, TerminalLands, header_count, most_hops, place, select}, Shown.IsShownRandom}
use Rattle.c104_check.specs.{Trails.{IsInput, IsNetwork}, Walks.{is_met, is_port}, declared.walks.Goal.TheVariants.Portal}
use Rattle.{c104_interval.specs.declared.intervals.Select.TheVariants.Discard, c104_plan.specs.declared.ports.Port.Port}
use Rattle.std.specs.{List.{AllByRecursion, list_any}, Prelude.{Bool, List, None, Option, Some, [], false, if◌then◌else◌, length, nat_le}}
use Rattle.std.specs.Prelude.{slice_get, slice_index_or, take, true, ℕ, ⊤, ◌&&◌, ◌++◌, ◌<◌, ◌∷◌, ◌≡◌, ◌⊎◌}

-- all random headers of an entry come to portals
abbrev pub AllHome : Routes → SwitchPort → Type 0
AllHome routes p = (r : ℕ) → IsRandomAt routes p r → Homes routes r (most_hops routes) p.switch p.link

-- and all below h do
abbrev pub HomeBelow : Routes → SwitchPort → ℕ → Type 0
HomeBelow routes p h = (r : ℕ) → r < h → IsRandomAt routes p r → Homes routes r (most_hops routes) p.switch p.link

-- q is a portal of an entry, and headers come where they should from those that are met before it, if they do from
-- these starts
pub record IsBehind (routes : Routes) (before : List Start) (entry q : SwitchPort) : Type 0 where
  pub homes : AllHome routes entry
  pub is_portal : IsPortal routes entry q
  pub met_before : List SwitchPort
  pub met_after : List SwitchPort
  pub in_order : portals_met routes entry ≡ met_before ++ (q ∷ met_after)
  pub land : AllLand routes before → AllByRecursion (PortalLands routes) met_before

-- after these starts the next is this one
pub record IsNext (routes : Routes) (before : List Start) (start : Start) : Type 0 where
  pub entry : SwitchPort
  pub wired : IsEntryOf routes start.terminal entry
  pub input : IsInput (length routes.settings) start.at × IsWired routes start.at
  pub terminals : AllLand routes before → (t : ℕ) → t < start.terminal → TerminalLands routes t
  pub kind : ((start.behind ≡ false) × (start.at ≡ entry) × (IsRandomized routes entry → ⊥)) ⊎ ((start.behind ≡ true) × IsBehind routes before entry start.at)

abbrev pub AreStarts : Routes → List Start → Type 0
AreStarts routes starts =
    (k : ℕ) (start : Start) → slice_get starts k ≡ Some start → IsNext routes (take k starts) start

-- where headers come where they should from these starts, they do from the first n terminals
abbrev pub CoverTerminals : Routes → List Start → ℕ → Type 0
CoverTerminals routes starts n = AllLand routes starts → (t : ℕ) → t < n → TerminalLands routes t

-- and from these portals
abbrev pub CoverPortals : Routes → List Start → List SwitchPort → Type 0
CoverPortals routes starts portals = AllLand routes starts → AllByRecursion (PortalLands routes) portals

-- where headers begin at the input of terminal t
abbrev pub start_at : ℕ → SwitchPort → Start
start_at t p = record { terminal = t; at = p; behind = false }

-- where headers begin behind the input of terminal t, at a portal
abbrev pub start_behind : ℕ → SwitchPort → Start
start_behind t q = record { terminal = t; at = q; behind = true }

-- own headers begin at input p by one of these starts
abbrev pub HasStart : List Start → Bool → SwitchPort → Type 0
HasStart starts behind p =
    (k : ℕ) × (start : Start) × (slice_get starts k ≡ Some start) × (start.at ≡ p) × (start.behind ≡ behind)

-- and so they do where those of the first n terminals begin
abbrev pub HaveOwn : Routes → List Start → ℕ → Type 0
HaveOwn routes starts n = (t : ℕ) (behind : Bool) (p : SwitchPort) → t < n → BeginsAt routes t behind p → HasStart starts behind p

-- a start is where own headers of its terminal begin, and has those of the terminals before it before it
pub record IsOwnStart (routes : Routes) (before : List Start) (start : Start) : Type 0 where
  pub begins : BeginsAt routes start.terminal start.behind start.at
  pub input : IsInput (length routes.settings) start.at × IsWired routes start.at
  pub terminals : HaveOwn routes before start.terminal

-- the starts are those of the first n terminals in order, or more
pub record AreOwnStarts (routes : Routes) (starts : List Start) (n : ℕ) : Type 0 where
  pub each : (k : ℕ) (start : Start) → slice_get starts k ≡ Some start → IsOwnStart routes (take k starts) start
  pub have : HaveOwn routes starts n

-- the portals at which random headers of an entry below h are discarded are among these starts
abbrev pub HavePortals : Routes → SwitchPort → List Start → ℕ → Type 0
HavePortals routes entry starts h =
    (r m : ℕ) (q : SwitchPort) → r < h → IsRandomAt routes entry r → Reaches routes r m entry q → select routes q.switch q.link r ≡ Some Discard → HasStart starts true q

-- so is an input, if a header is discarded there
abbrev pub HaveDiscarding : Routes → ℕ → List Start → SwitchPort → Type 0
HaveDiscarding routes r starts q = select routes q.switch q.link r ≡ Some Discard → HasStart starts true q

-- what begins by these starts does so by those
abbrev pub AreKept : List Start → List Start → Type 0
AreKept old new = (behind : Bool) (p : SwitchPort) → HasStart old behind p → HasStart new behind p

-- a portal is among these starts
abbrev pub has_portal : SwitchPort → List Start → Bool
has_portal q starts = list_any (λ (start : Start). start.behind && is_port q start.at) starts

-- it joins them behind terminal t, unless it is
abbrev pub with_portal : List Start → ℕ → SwitchPort → List Start
with_portal starts t q = if has_portal q starts then starts else starts ++ start_behind t q ∷ []

-- where own headers begin, and the inputs to which header h may come in the one part and in the other
pub record AreHeaderWays (routes : Routes) (h : ℕ) (starts : List Start) (own random : List SwitchPort) : Type 0 where
  pub network : IsNetwork routes
  pub begin : AreOwnStarts routes starts (length routes.ranges)
  pub as_own : AreJust (IsReachedAsOwn routes h) own
  pub own_inside : AllByRecursion (IsInput (length routes.settings)) own
  pub as_random : AreJust (IsReachedAsRandom routes h) random
  pub random_inside : AllByRecursion (IsInput (length routes.settings)) random

-- inputs join others, one after another
abbrev pub add_all : List SwitchPort → List SwitchPort → List SwitchPort
add_all inputs [] = inputs
add_all inputs (q ∷ qs) = add_all (with_input inputs q) qs

-- these have joined
abbrev pub AreKnown : List SwitchPort → List SwitchPort → Type 0
AreKnown inputs qs = AllByRecursion (λ q. is_met q inputs ≡ true) qs

-- what a header meets from each input that was walked from is among these portals
abbrev pub AreWalked : Routes → ℕ → List Bool → List SwitchPort → Type 0
AreWalked routes r walked portals =
    (p : SwitchPort) → IsInput (length routes.settings) p → slice_index_or walked (place p) false ≡ true → (k : ℕ) → Homes routes r k p.switch p.link → AllByRecursion (λ q. is_met q portals ≡ true) (met_from routes r k p)

-- the first random header of an entry that doesn't come to a portal; the starts cover the terminals before it
pub record IsFirstRandom (routes : Routes) (starts : List Start) (refusal : Refusal) : Type 0 where
  pub entry : SwitchPort
  pub wired : IsEntryOf routes refusal.shown.entry entry
  pub below : refusal.shown.header < header_count routes
  pub covers : CoverTerminals routes starts refusal.shown.entry
  pub refused : IsRandomRefused routes entry refusal.why refusal.shown

-- of those at an entry
pub record IsFirstRandomAt (routes : Routes) (t : ℕ) (p : SwitchPort) (refusal : Refusal) : Type 0 where
  pub terminal : refusal.shown.entry ≡ t
  pub below : refusal.shown.header < header_count routes
  pub refused : IsRandomRefused routes p refusal.why refusal.shown

-- header r of those doesn't come to a portal from an entry
pub record IsRefusedRandom (routes : Routes) (t : ℕ) (p : SwitchPort) (r : ℕ) (refusal : Refusal) : Type 0 where
  pub terminal : refusal.shown.entry ≡ t
  pub header : refusal.shown.header ≡ r
  pub shows : IsShownRandom routes r p refusal.why refusal.shown.walk
  pub first : IsFirstWalk routes r (Some Portal) p refusal.why refusal.shown.walk
  pub fails : (k : ℕ) → Homes routes r k p.switch p.link → ⊥

-- at a terminal's input it does, where it is one
abbrev pub HomesAt : Routes → ℕ → ℕ → Type 0
HomesAt routes r t = (p : SwitchPort) → IsEntryOf routes t p → IsRandomAt routes p r → Homes routes r (most_hops routes) p.switch p.link

-- or it is one there and doesn't
pub record IsHomelessAt (routes : Routes) (r t : ℕ) (refusal : Refusal) : Type 0 where
  pub entry : SwitchPort
  pub wired : IsEntryOf routes t entry
  pub random : IsRandomAt routes entry r
  pub refused : IsRefusedRandom routes t entry r refusal

-- at the first terminal where it doesn't
pub record IsFirstHomeless (routes : Routes) (r : ℕ) (refusal : Refusal) : Type 0 where
  pub before : HomesFirst routes r refusal.shown.entry
  pub here : IsHomelessAt routes r refusal.shown.entry refusal

-- the first of two refusals by terminal, and of one terminal that as a random header
abbrev pub earlier : Option Refusal → Option Refusal → Option Refusal
earlier None own = own
earlier (Some random) None = Some random
earlier (Some random) (Some own) = if nat_le random.shown.entry own.shown.entry then Some random else Some own

-- a link is wired to an input
abbrev pub LeadsToInput : Option Port → Type 0
LeadsToInput None = ⊥
LeadsToInput (Some (Port.Terminal t)) = ⊥
LeadsToInput (Some (Port.Switch s i)) = ⊤

-- what the random headers of an entry meet joined those of these portals that were known, which these starts cover
pub record HaveJoined (routes : Routes) (p : SwitchPort) (starts : List Start) (known : ℕ) (portals : List SwitchPort) : Type 0 where
  pub old : List SwitchPort
  pub count : known ≡ length old
  pub joined : portals ≡ add_all old (portals_met routes p)
  pub covers : CoverPortals routes starts old
