-- The order in which what crossed the wires is told: by switch, and of each switch by link: what a terminal there sends, and what
-- goes out of the link. A port from which nothing goes is left out.
--     shown_ports plan t last      the ports, up to the last round that is shown
use Rattle.{c104_plan.specs.{Plans.Plan, Wiring.peer, declared.ports.Port.Port}, c104_rows.specs.{Lanes.{Lane, Stretch}, Periods.is_in}}
use Rattle.{c104_rows.specs.Timelines.{Timeline, place_of}, c104_run.specs.Rounds.link_numbers}
use Rattle.std.specs.{List.{flat_map, list_any, range_with_len}, Prelude.{Bool, List, None, Option, Some, [], false, if◌then◌else◌, length}}
use Rattle.std.specs.Prelude.{map, slice_get, ℕ, ◌++◌, ◌∷◌}

-- what crossed at a port, if there is such a port
abbrev pub lane_in : List Lane → Option ℕ → Option Lane
lane_in lanes None = None
lane_in lanes (Some place) = slice_get lanes place

abbrev pub lane_at : Timeline → Port → Option Lane
lane_at t p = lane_in t.lanes (place_of t p)

-- whether something is shown from there
abbrev pub has_stretch : ℕ → Lane → Bool
has_stretch last lane = list_any (λ (s : Stretch). is_in last s) lane.stretches

abbrev pub is_shown_by : ℕ → Option Lane → Bool
is_shown_by last None = false
is_shown_by last (Some lane) = has_stretch last lane

abbrev pub is_shown : Timeline → ℕ → Port → Bool
is_shown t last q = is_shown_by last (lane_at t q)

abbrev pub shown_if : Timeline → ℕ → Port → List Port
shown_if t last q = if is_shown t last q then q ∷ [] else []

-- the ports at the wire of a link from which something is shown
abbrev pub shown_in : Timeline → ℕ → Option Port → List Port
shown_in t last None = []
shown_in t last (Some (Port.Terminal k)) = shown_if t last (Port.Terminal k)
shown_in t last (Some (Port.Switch s l)) = []

abbrev pub shown_at : Plan → Timeline → ℕ → Port → List Port
shown_at plan t last q = shown_in t last (peer plan q) ++ shown_if t last q

abbrev pub link_ports : Plan → Timeline → ℕ → ℕ → ℕ → List Port
link_ports plan t last s l = shown_at plan t last (Port.Switch s l)

abbrev pub switch_ports : Plan → Timeline → ℕ → ℕ → List Port
switch_ports plan t last s = flat_map (link_ports plan t last s) link_numbers

abbrev pub shown_ports : Plan → Timeline → ℕ → List Port
shown_ports plan t last = flat_map (switch_ports plan t last) (range_with_len 0 (length plan.switches))
