-- What is counted of a round.
pub use Rattle.c104_rows.specs.declared.rounds.{Levels.Levels, RoundRow.RoundRow}
use Rattle.c104_rows.specs.Numbers.{few, told}
use Rattle.std.specs.Prelude.{ℕ, ◌+◌}

-- what there is in a network in which nothing is
abbrev pub no_levels : Levels
no_levels = record { waiting = 0; inside = 0; held = 0 }

-- a round that begins, where this was there before
abbrev pub new_round : ℕ → Levels → RoundRow
new_round round levels = record { round = round; moved = 0; arrived = 0; levels = levels }

-- a token more crossed a wire
abbrev pub moved_round : RoundRow → RoundRow
moved_round r = record r { moved = told (r.moved + 1) }

-- a token more arrived
abbrev pub arrived_round : RoundRow → RoundRow
arrived_round r = record r { arrived = told (r.arrived + 1) }

-- a round that many rounds pass behind
abbrev pub later_round : ℕ → RoundRow → RoundRow
later_round times r = record r { round = few (r.round + times) }

-- this is there before the next one begins
abbrev pub ended_round : Levels → RoundRow → RoundRow
ended_round levels r = record r { levels = levels }
