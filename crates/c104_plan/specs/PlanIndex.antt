-- What is kept beside the lists of a plan, so that names and rows need no search.
use Rattle.c104_plan.specs.{Plans.{PlanRow, most_switches, rows_of}, Ports.{IsSwitchPort, Port}}
use Rattle.c104_regs.specs.declared.registers.TheConstants.{LINKS}
use Rattle.std.specs.{Global.Vec, Prelude.{List, length, map, slice_index_or, ℕ, ◌*◌, ◌+◌, ◌≡◌}}

-- the texts of vectors of bytes
abbrev pub texts : List (Vec ℕ) → List (List ℕ)
texts names = map (λ (name : Vec ℕ). name.items) names

-- where an input's count is among those of all inputs
abbrev pub input_place : Port → ℕ
input_place (Port.Switch s l) = LINKS * s + l
input_place (Port.Terminal t) = 0

-- for each input how many of the rows are its own
abbrev pub AreCounted : List ℕ → List PlanRow → Type 0
AreCounted counts rows =
    (length counts ≡ most_switches * LINKS)
    × ((p : Port) → IsSwitchPort most_switches p → slice_index_or counts (input_place p) 0 ≡ length (rows_of p rows))
