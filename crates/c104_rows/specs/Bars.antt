-- What crossed the wire at a port, packet by packet: for each stretch of a packet on it the rounds in which the packet holds the wire and
-- nothing crosses, and those behind them in each of which one of its tokens does.
--     bars_at t last q      what crossed the wire at q, up to the last round that is shown
pub use Rattle.c104_rows.specs.declared.bars.Bar.{Bar}
use Rattle.{c104_plan.specs.declared.ports.Port.Port, c104_rows.specs.{Lanes.{Lane, Stretch, packet_of}, Periods.{idle_in, is_in}}}
use Rattle.c104_rows.specs.{Periods.moved_in, Ports.lane_at, Timelines.Timeline}
use Rattle.std.specs.{List.flat_map, Prelude.{List, None, Option, Some, [], if◌then◌else◌, ℕ, ◌∷◌}}

abbrev pub bar_of : ℕ → Lane → Stretch → Bar
bar_of last lane s = record { number = s.packet; packet = packet_of lane s; holds = idle_in last s; moves = moved_in last s }

abbrev pub bars_by : ℕ → Lane → Stretch → List Bar
bars_by last lane s = if is_in last s then bar_of last lane s ∷ [] else []

abbrev pub bars_in : ℕ → Option Lane → List Bar
bars_in last None = []
bars_in last (Some lane) = flat_map (bars_by last lane) lane.stretches

abbrev pub bars_at : Timeline → ℕ → Port → List Bar
bars_at t last q = bars_in last (lane_at t q)
