-- What is counted of a link, by the tokens that cross at its port, one after the other.
--     link_after row x      what is counted after one token more
pub use Rattle.c104_rows.specs.declared.links.{Crossing.Crossing, Holder.Holder, LinkRow.LinkRow}
use Rattle.c104_rows.specs.Numbers.{few, told}
use Rattle.std.specs.Prelude.{Bool, None, Option, Some, false, if◌then◌else◌, max, nat_eq, true, ℕ, ◌+◌, ◌-◌, ◌||◌}

-- a link over which nothing has crossed
abbrev pub new_link : LinkRow
new_link = record { tokens = 0; busy = 0; packets = 0; longest = 0; waiting = 0; last = None; holder = None }

-- whether the last token crossed in this round
abbrev pub is_in : Option ℕ → ℕ → Bool
is_in None round = false
is_in (Some last) round = nat_eq last round

-- in how many rounds a token crossed, with one in this round; what happens before the first round isn't in any
abbrev pub busy_after : LinkRow → ℕ → ℕ
busy_after row round = if is_in row.last round || nat_eq round 0 then row.busy else told (row.busy + 1)

-- the packet that holds a link, with one token more in this round: it begins there, or has held it already
abbrev pub held_after : Option Holder → Bool → ℕ → Holder
held_after None again round = record { since = round; busy = 1 }
held_after (Some h) true round = h
held_after (Some h) false round = record { since = h.since; busy = few (h.busy + 1) }

abbrev pub holder_after : LinkRow → ℕ → Holder
holder_after row round = held_after row.holder (is_in row.last round) round

-- over how many rounds a packet has held a link, the first and this one counted
abbrev pub span : Holder → ℕ → ℕ
span h round = (round - h.since) + 1

abbrev pub link_span : LinkRow → ℕ → ℕ
link_span row round = span (holder_after row round) round

-- in how many of them nothing of it crossed
abbrev pub link_idle : LinkRow → ℕ → ℕ
link_idle row round = link_span row round - (holder_after row round).busy

-- over how many rounds a packet held it at most, with one that holds it in this round
abbrev pub longest_with : ℕ → Option Holder → ℕ → ℕ
longest_with longest None round = longest
longest_with longest (Some h) round = max longest (span h round)

abbrev pub longest_at : LinkRow → ℕ → ℕ
longest_at row round = longest_with row.longest row.holder round

-- a link that no packet holds from this round on: one that held it until now counts
abbrev pub link_cut : ℕ → LinkRow → LinkRow
link_cut round row = record row { longest = longest_at row round; holder = None }

-- how many tokens wait there where a round is over
abbrev pub link_level : ℕ → LinkRow → LinkRow
link_level level row = record row { waiting = max row.waiting level }

-- a link after a token that crosses
abbrev pub link_after : LinkRow → Crossing → LinkRow
link_after row x = record {
  tokens = told (row.tokens + 1);
  busy = busy_after row x.round;
  packets = if x.ends then told (row.packets + 1) else row.packets;
  longest = if x.ends then max row.longest (link_span row x.round) else row.longest;
  waiting = row.waiting;
  last = Some x.round;
  holder = if x.ends then None else Some (holder_after row x.round);
}

-- the round of a packet's first token: one that crossed before, or this one
abbrev pub first_of : Option ℕ → ℕ → ℕ
first_of None round = round
first_of (Some first) round = first
