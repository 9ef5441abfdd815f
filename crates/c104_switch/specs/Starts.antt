-- Where switches start: what is set, granted, credited and counted where no token stands, as plain data,
-- which is a switch over any kind of token.
use Rattle.c104_link.specs.{Buffers.{IsValidCap, Outgoing, start_incoming, start_outgoing}, declared.outgoing.TheConstants.CREDIT_LIMIT}
use Rattle.{c104_regs.specs.declared.{registers.TheConstants.LINKS, settings.Settings.Settings}, c104_switch.specs.Switch.{Input, Switch}}
use Rattle.c104_switch.specs.declared.{link_start.LinkStart.LinkStart, phase.Phase.TheVariants.Fresh}
use Rattle.std.specs.Prelude.{All, Bool, List, [], length, map, replicate, ℕ, ◌∷◌, ◌≡◌, ◌≤◌}

-- a switch in which no token stands and no packet is under way
pub record SwitchStart : Type 0 where
  pub started : Bool
  pub settings : List Settings
  pub links : List LinkStart

-- a link keeps room for all that it has granted, and its credit is at most 64
pub record IsLinkStart (l : LinkStart) : Type 0 where
  pub cap : IsValidCap l.cap
  pub granted : l.granted ≤ l.cap
  pub credit : l.credit ≤ CREDIT_LIMIT

-- what every such start keeps: settings and a start for each link
pub record IsSwitchStart (s : SwitchStart) : Type 0 where
  pub settings : length s.settings ≡ LINKS
  pub count : length s.links ≡ LINKS
  pub links : All IsLinkStart s.links

-- a link at first: nothing is granted, and there is no credit
abbrev pub new_link : ℕ → LinkStart
new_link cap = record { cap = cap; granted = 0; credit = 0; sunk = 0; short = 0 }

-- a switch at first, with these settings
abbrev pub new_start : ℕ → List Settings → Bool → SwitchStart
new_start cap settings started = record { started = started; settings = settings; links = replicate LINKS (new_link cap) }

-- the input of a link at a start: nothing came since its last packet
abbrev pub start_input : {A : Type 0} → LinkStart → Input A
start_input l = record { buffer = start_incoming l.cap l.granted; phase = Fresh; sunk = l.sunk; short = l.short }

-- the output of a link at a start: nothing waits
abbrev pub start_output : {A : Type 0} → LinkStart → Outgoing A
start_output l = start_outgoing l.credit

-- a switch at a start
abbrev pub start_switch : {A : Type 0} → SwitchStart → Switch A
start_switch s = record {
  started = s.started;
  settings = s.settings;
  inputs = map start_input s.links;
  outputs = map start_output s.links;
}

-- where a link stands, but for its tokens
abbrev pub link_start : {A : Type 0} → Input A → Outgoing A → LinkStart
link_start p q = record { cap = p.buffer.cap; granted = p.buffer.granted; credit = q.credit; sunk = p.sunk; short = p.short }

-- the same of all links
abbrev pub link_starts : {A : Type 0} → List (Input A) → List (Outgoing A) → List LinkStart
link_starts [] qs = []
link_starts (p ∷ ps) [] = []
link_starts (p ∷ ps) (q ∷ qs) = link_start p q ∷ link_starts ps qs

-- where a switch stands, but for its tokens
abbrev pub switch_start : {A : Type 0} → Switch A → SwitchStart
switch_start s = record { started = s.started; settings = s.settings; links = link_starts s.inputs s.outputs }
