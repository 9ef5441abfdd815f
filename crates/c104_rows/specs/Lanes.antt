-- What crossed the wire at a port, from there: stretches of rounds, in each of which tokens of one packet crossed, or behind its
-- last token it held the wire and nothing crossed.
--     lane_crossed l round ends      a token crosses
--     lane_settled l      the token that crossed last has become part of a stretch
--     lane_cut round l      the tokens behind it are thrown away
--     lane_closed end packet l      the run is at its end
pub use Rattle.c104_rows.specs.declared.lanes.{Crossing.Crossing, Step.Step, Stretch.Stretch}
use Rattle.{c104_node.specs.declared.origins.Origin.Origin, c104_rows.specs.Numbers.few}
use Rattle.std.specs.{Option.{option_to_list, unwrap_or}, Prelude.{Bool, List, None, Option, Some, [], false, if◌then◌else◌, length}}
use Rattle.std.specs.Prelude.{nat_le, nat_lt, slice_get, true, ℕ, ◌&&◌, ◌++◌, ◌+◌, ◌==◌, ◌∷◌}

pub record Lane : Type 0 where
  -- the stretches that are past
  pub stretches : List Stretch
  -- the packets that have ended: those that crossed to their end, and without a name those that were cut, whose rest was
  -- thrown away; at the end of the run also one that hasn't ended, if it is known
  pub packets : List (Option Origin)
  -- the latest stretch, and a token that has yet to become part of one
  pub latest : Option Stretch
  pub token : Option Crossing

abbrev pub new_lane : Lane
new_lane = record { stretches = []; packets = []; latest = None; token = None }

-- the round behind one
abbrev pub next_round : ℕ → ℕ
next_round round = few (round + 1)

-- a packet that crosses to its end, if one does, as one of those that have ended
abbrev pub as_ended : Option Origin → List (Option Origin)
as_ended None = []
as_ended (Some packet) = Some packet ∷ []

-- whether the packet of a stretch holds the wire, where k packets have ended
abbrev pub is_open : Stretch → ℕ → Bool
is_open s k = s.packet == k

-- whether a token of its packet crosses in its last round or the next
abbrev pub goes_on : Stretch → ℕ → ℕ → Bool
goes_on s k round = is_open s k && nat_le round (next_round s.last)

-- since when a packet has held the wire whose token crosses in this round behind it
abbrev pub held_since : Stretch → ℕ → ℕ → ℕ
held_since s k round = if is_open s k then next_round s.last else round

abbrev pub first_stretch : ℕ → ℕ → ℕ → Stretch
first_stretch k since round = record { packet = k; since = since; first = round; last = round; moves = true }

-- the latest stretch after a token that crosses in this round, and the one before, if it is past
abbrev pub step_by : Bool → Stretch → ℕ → ℕ → Step
step_by true s k round = record { past = None; latest = record s { last = round } }
step_by false s k round = record { past = Some s; latest = first_stretch k (held_since s k round) round }

abbrev pub step_of : Option Stretch → ℕ → ℕ → Step
step_of None k round = record { past = None; latest = first_stretch k round round }
step_of (Some s) k round = step_by (goes_on s k round) s k round

-- a token crosses, which ends this packet, or none
abbrev pub lane_crossed : Lane → ℕ → Option Origin → Lane
lane_crossed l round ends = record l { token = Some (record { round = round; ends = ends }) }

-- it has become part of a stretch
abbrev pub lane_stepped : Lane → Crossing → Step → Lane
lane_stepped l c step = record {
  stretches = l.stretches ++ option_to_list step.past;
  packets = l.packets ++ as_ended c.ends;
  latest = Some step.latest;
  token = None;
}

abbrev pub settled_by : Lane → Option Crossing → Lane
settled_by l None = l
settled_by l (Some c) = lane_stepped l c (step_of l.latest (length l.packets) c.round)

abbrev pub lane_settled : Lane → Lane
lane_settled l = settled_by l l.token

-- the rounds behind a stretch, up to this one, in which its packet holds the wire and nothing crosses
abbrev pub rest_from : ℕ → ℕ → Stretch → Stretch
rest_from first end s = record { packet = s.packet; since = first; first = first; last = end; moves = false }

abbrev pub rest_of : Bool → ℕ → Stretch → Option Stretch
rest_of held end s = if held && nat_lt s.last end then Some (rest_from (next_round s.last) end s) else None

-- a packet that holds the wire is cut in this round: it has held the wire up to then, and has ended without a name
abbrev pub cut_with : ℕ → Lane → Bool → Stretch → Lane
cut_with round l true s = record l {
  stretches = l.stretches ++ s ∷ option_to_list (rest_of true round s);
  packets = l.packets ++ None ∷ [];
  latest = None;
}
cut_with round l false s = l

abbrev pub cut_by : ℕ → Lane → Option Stretch → Lane
cut_by round l None = l
cut_by round l (Some s) = cut_with round l (is_open s (length l.packets)) s

abbrev pub lane_cut : ℕ → Lane → Lane
lane_cut round l = cut_by round (lane_settled l) (lane_settled l).latest

-- the packet that holds it
abbrev pub name_if : Bool → Option Origin → Option Origin
name_if true packet = packet
name_if false packet = None

-- the run is at its end, and this is its last round
abbrev pub closed_with : ℕ → Option Origin → Lane → Bool → Stretch → Lane
closed_with end packet l held s = record l {
  stretches = l.stretches ++ s ∷ option_to_list (rest_of held end s);
  packets = l.packets ++ as_ended (name_if held packet);
  latest = None;
}

abbrev pub closed_by : ℕ → Option Origin → Lane → Option Stretch → Lane
closed_by end packet l None = l
closed_by end packet l (Some s) = closed_with end packet l (is_open s (length l.packets)) s

abbrev pub lane_closed : ℕ → Option Origin → Lane → Lane
lane_closed end packet l = closed_by end packet (lane_settled l) (lane_settled l).latest

-- the packet of a stretch, if its end tells it
abbrev pub packet_of : Lane → Stretch → Option Origin
packet_of l s = unwrap_or (slice_get l.packets s.packet) None
