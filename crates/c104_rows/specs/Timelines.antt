-- What crossed the wires of a network, round by round: a step for each thing that is told, in the order in which it happened.
use Rattle.{c104_node.specs.declared.origins.Origin.Origin, c104_plan.specs.{Plans.Plan, declared.ports.Port.Port}}
use Rattle.{c104_regs.specs.declared.registers.TheConstants.LINKS, c104_rows.specs.Lanes.{Lane, lane_closed, lane_crossed, lane_cut}}
use Rattle.c104_rows.specs.{Lanes.{lane_settled, new_lane, next_round}, Numbers.{each_number, few}, Packets.change_at}
use Rattle.c104_rows.specs.declared.timelines.TheConstants.{BEYOND}
use Rattle.std.specs.Prelude.{Bool, List, None, Option, Some, if◌then◌else◌, length, map, min, nat_lt, replicate, ℕ, ◌%◌, ◌&&◌, ◌*◌, ◌+◌}
use Rattle.std.specs.Prelude.{◌-◌, ◌/◌}

pub record Timeline : Type 0 where
  -- how many terminals there are
  pub terminals : ℕ
  -- what crossed the wires of the terminals, and then those of the switches' links, 32 of each
  pub lanes : List Lane
  -- how many rounds have begun, and the last one in which something was done
  pub round : ℕ
  pub active : ℕ

-- how many ports something can go out of
abbrev pub lane_count : Plan → ℕ
lane_count plan = length plan.terminals + LINKS * length plan.switches

-- how many lanes are kept, if what crosses is wanted or not
abbrev pub kept_lanes : Plan → Bool → ℕ
kept_lanes plan wanted = if wanted then lane_count plan else 0

-- before anything happens on the network of a plan; where what crosses isn't wanted, none of it is kept
abbrev pub new_timeline : Plan → Bool → Timeline
new_timeline plan wanted = record {
  terminals = length plan.terminals;
  lanes = replicate (kept_lanes plan wanted) new_lane;
  round = 0;
  active = 0;
}

-- the place of a port among the lanes, and the port at a place
abbrev pub has_link : Timeline → ℕ → ℕ → Bool
has_link t s l = nat_lt l LINKS && nat_lt s ((length t.lanes - t.terminals) / LINKS)

abbrev pub place_of : Timeline → Port → Option ℕ
place_of t (Port.Switch s l) = if has_link t s l then Some (t.terminals + (s * LINKS + l)) else None
place_of t (Port.Terminal k) = if nat_lt k t.terminals then Some k else None

abbrev pub port_at : Timeline → ℕ → Port
port_at t place =
    if nat_lt place t.terminals then Port.Terminal place
    else Port.Switch ((place - t.terminals) / LINKS) ((place - t.terminals) % LINKS)

-- a change of what crossed at a place, if there is one
abbrev pub changed : Timeline → Option ℕ → (Lane → Lane) → Timeline
changed t None f = t
changed t (Some place) f = record t { lanes = change_at t.lanes place f }

-- a token crosses the wire at a port, which ends this packet, or none
abbrev pub timeline_crossed : Timeline → Port → Option Origin → Timeline
timeline_crossed t p ended =
    record (changed t (place_of t p) (λ lane. lane_crossed lane t.round ended)) { active = t.round }

-- the token that crossed last at a port has become part of what crossed there
abbrev pub timeline_settled : Timeline → Port → Timeline
timeline_settled t p = changed t (place_of t p) lane_settled

-- the tokens in a switch are thrown away: a packet that holds the wire at this link of it is cut, and so is one at any link
abbrev pub link_cut : ℕ → ℕ → Timeline → Timeline
link_cut s l t = changed t (place_of t (Port.Switch s l)) (lane_cut t.round)

abbrev pub timeline_cut : Timeline → ℕ → Timeline
timeline_cut t s = each_number (link_cut s) LINKS t

-- a round begins
abbrev pub timeline_begun : Timeline → Timeline
timeline_begun t = record t { lanes = map lane_settled t.lanes; round = next_round t.round }

-- the round ended, or an event outside of rounds, and something was done or not
abbrev pub timeline_ended : Timeline → Bool → Timeline
timeline_ended t done = record t { active = if done then t.round else t.active }

-- as many rounds passed in which nothing was done
abbrev pub timeline_passed : Timeline → ℕ → Timeline
timeline_passed t times = record t { round = few (t.round + times) }

-- the last round that is shown: a few after the last one in which something was done
abbrev pub last_round : Timeline → ℕ
last_round t = min t.round (few (t.active + BEYOND))

-- the run is at its end, and this is the packet whose end has yet to cross at a place, if it is known: it holds the wire up to
-- the last round of the run, however few rounds are shown
abbrev pub timeline_closed : Timeline → ℕ → Option Origin → Timeline
timeline_closed t place packet = record t { lanes = change_at t.lanes place (lane_closed t.round packet) }
