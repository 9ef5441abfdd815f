-- What became of a packet.
pub use Rattle.c104_rows.specs.declared.endings.Ending.{Ending}
use Rattle.c104_rows.specs.{Packets.PacketRow, declared.endings.Ending.TheVariants.{Arrived, Short, Sunk, Unfinished}}
use Rattle.std.specs.Prelude.{if◌then◌else◌, is_some, nat_lt, ℕ}

-- where headers have this many bytes: it arrived; its terminator is in the network or at its sender; or it is gone, with fewer
-- bytes than a header, or else dropped by an input or cleared by a Reset
abbrev pub ending_of : ℕ → PacketRow → Ending
ending_of header p =
    if is_some p.arrival then Arrived else (if p.is_inside then Unfinished else (if nat_lt p.bytes header then Short else Sunk))
