-- What is counted of a run: a step for each thing that is told, in the order in which it happened.
use Rattle.{c104_node.specs.declared.origins.Origin.Origin, c104_plan.specs.{Plans.Plan, declared.plans.Terminal.Terminal}}
use Rattle.{c104_plan.specs.declared.ports.Port.Port, c104_regs.specs.declared.registers.TheConstants.LINKS, c104_rows.specs.Links.LinkRow}
use Rattle.c104_rows.specs.{Links.{link_after, link_cut, link_idle, link_level, new_link}, Numbers.{each_number, few}, Packets.Arrival}
use Rattle.c104_rows.specs.Packets.{PacketRow, all_but_last, arrived_packet, change_at, crossed_packet, inside_packet, left_packet}
use Rattle.c104_rows.specs.{Packets.sent_packet, Rounds.{Levels, RoundRow, arrived_round, ended_round, later_round, moved_round, new_round}}
use Rattle.c104_rows.specs.{Rounds.no_levels, declared.tables.Wanted.Wanted}
use Rattle.std.specs.Prelude.{Bool, List, None, Option, Some, [], false, if◌then◌else◌, is_some, length, map, nat_lt, replicate, slice_get}
use Rattle.std.specs.Prelude.{true, ℕ, ◌&&◌, ◌*◌, ◌++◌, ◌+◌, ◌/◌, ◌∷◌}

pub record Counts : Type 0 where
  -- what is wanted beside packets and tokens
  pub wanted : Wanted
  -- the links of the switches, 32 of each, and those of the terminals
  pub links : List LinkRow
  pub wires : List LinkRow
  -- the packets of each terminal
  pub senders : List (List PacketRow)
  -- the rounds that are over, and the one that began last
  pub rounds : List RoundRow
  pub current : RoundRow
  -- the last round in which something was done
  pub active : ℕ

-- before anything happens on the network of a plan
abbrev pub new_counts : Plan → Wanted → Counts
new_counts plan wanted = record {
  wanted = wanted;
  links = replicate (length plan.switches * LINKS) new_link;
  wires = replicate (length plan.terminals) new_link;
  senders = map (λ (t : Terminal). []) plan.terminals;
  rounds = [];
  current = new_round 0 no_levels;
  active = 0;
}

-- the place of a switch's link among this many links of switches, if the switch has this link
abbrev pub link_at : ℕ → ℕ → ℕ → Option ℕ
link_at count s l = if nat_lt l LINKS && nat_lt s (count / LINKS) then Some (s * LINKS + l) else None

-- the link of a switch, and a change of it
abbrev pub row_at : List LinkRow → Option ℕ → Option LinkRow
row_at links None = None
row_at links (Some place) = slice_get links place

abbrev pub link_row : List LinkRow → ℕ → ℕ → Option LinkRow
link_row links s l = row_at links (link_at (length links) s l)

abbrev pub change_if : List LinkRow → (LinkRow → LinkRow) → Option ℕ → List LinkRow
change_if links f None = links
change_if links f (Some place) = change_at links place f

abbrev pub change_link : List LinkRow → ℕ → ℕ → (LinkRow → LinkRow) → List LinkRow
change_link links s l f = change_if links f (link_at (length links) s l)

-- the links, those of a switch cut in this round
abbrev pub links_cut : ℕ → ℕ → List LinkRow → List LinkRow
links_cut round s links = each_number (λ l rows. change_link rows s l (link_cut round)) LINKS links

-- for how many rounds nothing moved over a link of the packet whose token crosses there in this round
abbrev pub idle_of : Option LinkRow → ℕ → ℕ
idle_of None round = 0
idle_of (Some row) round = link_idle row round

-- a packet, if one ends, has crossed a wire more
abbrev pub crossed_senders : List (List PacketRow) → ℕ → Option Origin → List (List PacketRow)
crossed_senders senders idle None = senders
crossed_senders senders idle (Some o) = change_at senders o.terminal (λ packets. change_at packets o.number (crossed_packet idle))

-- a packet, if one ends, has arrived
abbrev pub arrived_senders : List (List PacketRow) → Arrival → Option Origin → List (List PacketRow)
arrived_senders senders arrival None = senders
arrived_senders senders arrival (Some o) = change_at senders o.terminal (λ packets. change_at packets o.number (arrived_packet arrival))

-- a token left a terminal: it is of the packet behind those that have left it whole
abbrev pub left_senders : List (List PacketRow) → ℕ → ℕ → Option LinkRow → List (List PacketRow)
left_senders senders t round None = senders
left_senders senders t round (Some row) = change_at senders t (λ packets. change_at packets row.packets (left_packet round))

-- a terminal sent a packet of this many bytes
abbrev pub counts_sent : Counts → ℕ → ℕ → Counts
counts_sent c t bytes = record c { senders = change_at c.senders t (λ packets. packets ++ sent_packet (few bytes) c.current.round ∷ []) }

-- the packet that a terminal sent last was taken back
abbrev pub counts_taken : Counts → ℕ → Counts
counts_taken c t = record c { senders = change_at c.senders t all_but_last }

-- a token crossed the wire at a port, which ended this packet, or none
abbrev pub counts_crossed : Counts → Port → Option Origin → Counts
counts_crossed c (Port.Switch s l) ended = record c {
  links = change_link c.links s l (λ row. link_after row (record { round = c.current.round; ends = is_some ended }));
  senders = crossed_senders c.senders (idle_of (link_row c.links s l) c.current.round) ended;
  current = moved_round c.current;
  active = c.current.round;
}
counts_crossed c (Port.Terminal t) ended = record c {
  wires = change_at c.wires t (λ row. link_after row (record { round = c.current.round; ends = is_some ended }));
  senders = crossed_senders (left_senders c.senders t c.current.round (slice_get c.wires t))
      (idle_of (slice_get c.wires t) c.current.round) ended;
  current = moved_round c.current;
  active = c.current.round;
}

-- a token arrived at a terminal, which ended this packet, or none
abbrev pub counts_arrived : Counts → ℕ → Option Origin → Counts
counts_arrived c t ended = record c {
  senders = arrived_senders c.senders (record { terminal = few t; round = c.current.round }) ended;
  current = arrived_round c.current;
  active = c.current.round;
}

-- the packets that held the links of a switch hold them no more
abbrev pub counts_cut : Counts → ℕ → Counts
counts_cut c s = record c { links = links_cut c.current.round s c.links }

-- a round begins
abbrev pub counts_begun : Counts → Counts
counts_begun c = record c {
  rounds = if c.wanted.rounds then c.rounds ++ c.current ∷ [] else c.rounds;
  current = new_round (few (c.current.round + 1)) c.current.levels;
}

-- something was done in the round that began last, or not
abbrev pub counts_noted : Counts → Bool → Counts
counts_noted c done = record c { active = if done then c.current.round else c.active }

-- this is there before the next round begins, or at the end of all
abbrev pub counts_seen : Counts → Levels → Counts
counts_seen c levels = record c { current = ended_round levels c.current }

-- as many rounds passed in which nothing was done
abbrev pub counts_passed : Counts → ℕ → Counts
counts_passed c times = record c { current = later_round times c.current }

-- this many tokens wait to cross at a port, before the next round begins or at the end of all
abbrev pub counts_level : Counts → Port → ℕ → Counts
counts_level c (Port.Switch s l) level = record c { links = change_link c.links s l (link_level level) }
counts_level c (Port.Terminal t) level = record c { wires = change_at c.wires t (link_level level) }

-- the terminator of a packet was found in the network
abbrev pub counts_found : Counts → Origin → Counts
counts_found c o = record c { senders = change_at c.senders o.terminal (λ packets. change_at packets o.number inside_packet) }
