-- The workers of a storm: how many there are, and what they did.
use Rattle.{c104_lean.specs.Working.{HasWorked, IsOwnEvent, IsStop}, c104_plan.specs.Plans.Plan}
use Rattle.{c104_storm.specs.declared.working.Worked.Worked, c104_turns.specs.{Calls.SeatView, declared.words.Words.Words}}
use Rattle.std.specs.Prelude.{All, List, length, slice_index_or, ℕ, ◌<◌, ◌≡◌}

-- how many workers a storm has, and by which words they do turns
pub record Team : Type 0 where
  pub count : ℕ
  pub words : Words

-- the team of this many workers with such words
abbrev pub team_of : ℕ → Words → Team
team_of count words = record { count = count; words = words }

-- each worker did to its seat only what is its own
abbrev pub HaveWorked : Plan → Words → List SeatView → List SeatView → Type 0
HaveWorked plan words old new = (length new ≡ length old)
    × ((i : ℕ) (d : SeatView) → i < length old →
    HasWorked plan words (length old) i (slice_index_or old i d) (slice_index_or new i d))

-- a worker that stopped is one of a team, and was out of memory or had this fault of an event of its own
abbrev pub IsStopOf : Team → Plan → Worked → Type 0
IsStopOf team plan (Worked.Stopped worker kind) = (worker < team.count) × IsStop plan team.words team.count worker kind
IsStopOf team plan worked = Unit {0}

-- a seat has the calls of worker i of a team: each is of an event that a round has for one of its nodes
pub record IsDoneBy (team : Team) (plan : Plan) (i : ℕ) (seat : SeatView) : Type 0 where
  pub number : seat.number ≡ i
  pub own : All (λ c. IsOwnEvent plan team.words team.count i c.event) seat.calls

-- each worker of a team has a seat with such calls, and there is no other seat
pub record AreDoneBy (team : Team) (plan : Plan) (seats : List SeatView) : Type 0 where
  pub count : length seats ≡ team.count
  pub each : (i : ℕ) (d : SeatView) → i < team.count → IsDoneBy team plan i (slice_index_or seats i d)
