-- How a network stands: each port from which something goes out, if a packet holds its link or tokens wait at an end, and each
-- output that an input wants.
--     seen_behind r round seen      what there is to show of the network behind a round, and what there was of those before
pub use Rattle.c104_rows.specs.declared.states.{Hold.Hold, Way.Way, Wish.Wish}
use Rattle.c104_check.specs.{Routes.port_at, Walks.port_of, declared.ports.SwitchPort.SwitchPort}
use Rattle.{c104_node.specs.declared.{origins.Origin.Origin, terminal.views.TerminalView.TerminalView}, c104_plan.specs.Wiring.peer}
use Rattle.{c104_plan.specs.declared.ports.Port.Port, c104_regs.specs.declared.registers.TheConstants.LINKS}
use Rattle.c104_rows.specs.{Holders.packet_at, Senders.{Sending, sending_at}, Standing.is_still, Waits.{Wait, is_locked, wait_of}}
use Rattle.{c104_rows.specs.declared.holders.TheConstants.BUFFER_LIMIT, c104_run.specs.{NetRecords.NetRecord, NetViews.network_link_view}}
use Rattle.{c104_run.specs.{NetViews.network_terminal_view, Rounds.link_numbers}, c104_switch.specs.Phases.is_want}
use Rattle.{c104_switch.specs.declared.{actions.LinkView.LinkView, phase.Phase.Phase}, c104_token.specs.Kinds.plain_kind}
use Rattle.std.specs.{List.{flat_map, range_with_len}, Prelude.{Bool, List, None, Option, Some, [], false, if◌then◌else◌, length, min}}
use Rattle.std.specs.Prelude.{nat_lt, true, ℕ, ◌&&◌, ◌*◌, ◌++◌, ◌+◌, ◌==◌, ◌||◌, ◌∷◌}

-- a link that no packet holds
abbrev pub no_hold : Hold
no_hold = record { held = false; packet = None; locked = false }

-- an output that this input holds for its packet
abbrev pub hold_by : NetRecord → Bool → ℕ → Option ℕ → Hold
hold_by r still s None = no_hold
hold_by r still s (Some i) = record {
  held = true;
  packet = packet_at r (port_of s i);
  locked = still && is_locked r (port_of s i);
}

abbrev pub view_hold : NetRecord → Bool → ℕ → Option LinkView → Hold
view_hold r still s None = no_hold
view_hold r still s (Some view) = hold_by r still s view.owner

-- a terminal's link, which a packet holds of which some tokens have gone out
abbrev pub sent_hold : ℕ → Option Sending → Hold
sent_hold t None = no_hold
sent_hold t (Some it) =
    if it.place == 0 then no_hold
    else record { held = true; packet = Some (record { terminal = t; number = it.number }); locked = false }

-- the packet that holds the link of a port
abbrev pub hold_of : NetRecord → Bool → Port → Hold
hold_of r still (Port.Switch s l) = view_hold r still s (network_link_view plain_kind r.network s l)
hold_of r still (Port.Terminal t) = sent_hold t (sending_at r t)

-- how many tokens wait at a port to go out
abbrev pub view_behind : Option LinkView → ℕ
view_behind None = 0
view_behind (Some view) = view.output_level

abbrev pub sent_behind : Option TerminalView → ℕ
sent_behind None = 0
sent_behind (Some view) = view.waiting

abbrev pub behind : NetRecord → Port → ℕ
behind r (Port.Switch s l) = view_behind (network_link_view plain_kind r.network s l)
behind r (Port.Terminal t) = sent_behind (network_terminal_view r.network t)

-- how many tokens came in at a port and wait there, of which an input's buffer holds 64 at most, with those of a header
-- that is read or wants an output
abbrev pub header_count : Phase (List ℕ) → ℕ
header_count (Phase.Head bytes) = length bytes
header_count (Phase.Want bytes g) = length bytes
header_count Phase.Fresh = 0
header_count (Phase.Stream o) = 0
header_count Phase.Sinking = 0

abbrev pub view_before : Option LinkView → ℕ
view_before None = 0
view_before (Some view) = min view.input_level BUFFER_LIMIT + header_count view.phase

abbrev pub came_before : Option TerminalView → ℕ
came_before None = 0
came_before (Some view) = view.undrained

abbrev pub before : NetRecord → Option Port → ℕ
before r None = 0
before r (Some (Port.Switch s l)) = view_before (network_link_view plain_kind r.network s l)
before r (Some (Port.Terminal t)) = came_before (network_terminal_view r.network t)

-- the way out of a port
abbrev pub way_of : NetRecord → Bool → ℕ → Port → Way
way_of r still round p = record {
  round = round;
  from = p;
  to = peer r.network.plan p;
  behind = behind r p;
  before = before r (peer r.network.plan p);
  hold = hold_of r still p;
}

-- how many links the switches have
abbrev pub link_count : NetRecord → ℕ
link_count r = LINKS * length r.network.plan.switches

-- the way out of the link at a place, where all links are counted by switch and then by link, and out of a terminal
abbrev pub link_way : NetRecord → Bool → ℕ → ℕ → Way
link_way r still round k = let x = port_at k in way_of r still round (Port.Switch x.switch x.link)

abbrev pub terminal_way : NetRecord → Bool → ℕ → ℕ → Way
terminal_way r still round t = way_of r still round (Port.Terminal t)

-- there is something to show of it, if a packet holds the link, or tokens wait at an end
abbrev pub is_shown : Way → Bool
is_shown w = w.hold.held || (nat_lt 0 w.behind || nat_lt 0 w.before)

abbrev pub shown_way : Way → List Way
shown_way w = if is_shown w then w ∷ [] else []

abbrev pub link_ways : NetRecord → Bool → ℕ → ℕ → List Way
link_ways r still round k = shown_way (link_way r still round k)

abbrev pub terminal_ways : NetRecord → Bool → ℕ → ℕ → List Way
terminal_ways r still round t = shown_way (terminal_way r still round t)

-- an output that an input wants, if it does
abbrev pub wish_if : NetRecord → ℕ → SwitchPort → Option Origin → Bool → ℕ → Option Wait → List Wish
wish_if r round x packet locked o None = []
wish_if r round x packet locked o (Some w) = record {
  round = round;
  input = x;
  output = o;
  to = peer r.network.plan (Port.Switch x.switch o);
  packet = packet;
  locked = locked;
} ∷ []

abbrev pub wish_of : NetRecord → ℕ → SwitchPort → Option Origin → Bool → ℕ → List Wish
wish_of r round x packet locked o = wish_if r round x packet locked o (wait_of r x o)

-- the outputs that an input wants
abbrev pub wishes_by : NetRecord → ℕ → SwitchPort → Option Origin → Bool → List Wish
wishes_by r round x packet locked = flat_map (wish_of r round x packet locked) link_numbers

abbrev pub wishes_if : NetRecord → Bool → ℕ → SwitchPort → Bool → List Wish
wishes_if r still round x false = []
wishes_if r still round x true = wishes_by r round x (packet_at r x) (still && is_locked r x)

-- whether an input wants an output for its header
abbrev pub view_wants : Option LinkView → Bool
view_wants None = false
view_wants (Some view) = is_want view.phase

abbrev pub wants : NetRecord → SwitchPort → Bool
wants r x = view_wants (network_link_view plain_kind r.network x.switch x.link)

abbrev pub wishes_of : NetRecord → Bool → ℕ → ℕ → List Wish
wishes_of r still round k = wishes_if r still round (port_at k) (wants r (port_at k))

-- what was seen behind rounds
pub record Seen : Type 0 where
  -- which rounds these are
  pub rounds : List ℕ
  pub ways : List Way
  pub wishes : List Wish

abbrev pub nothing_seen : Seen
nothing_seen = record { rounds = []; ways = []; wishes = [] }

-- and behind one more: the links of each switch, and then the terminals; and what inputs want
abbrev pub seen_if : NetRecord → ℕ → Seen → Bool → Seen
seen_if r round seen still = record {
  rounds = seen.rounds ++ round ∷ [];
  ways = (seen.ways ++ flat_map (link_ways r still round) (range_with_len 0 (link_count r)))
      ++ flat_map (terminal_ways r still round) (range_with_len 0 (length r.network.plan.terminals));
  wishes = seen.wishes ++ flat_map (wishes_of r still round) (range_with_len 0 (link_count r));
}

abbrev pub seen_behind : NetRecord → ℕ → Seen → Seen
seen_behind r round seen = seen_if r round seen (is_still r.network)
