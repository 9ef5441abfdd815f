-- The end of a run: the packets whose ends have yet to cross a wire.
--     closed_all r t      the timeline of a run that ends in this network
use Rattle.c104_rows.specs.{Holders.packet_out, Numbers.each_number, Timelines.{Timeline, port_at, timeline_closed}}
use Rattle.c104_run.specs.NetRecords.{NetRecord}
use Rattle.std.specs.Prelude.{length, ℕ}

abbrev pub closed_at : NetRecord → ℕ → Timeline → Timeline
closed_at r place t = timeline_closed t place (packet_out r (port_at t place))

abbrev pub closed_all : NetRecord → Timeline → Timeline
closed_all r t = each_number (closed_at r) (length t.lanes) t
