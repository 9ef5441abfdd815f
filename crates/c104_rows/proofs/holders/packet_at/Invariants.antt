use Rattle.{c104_rows.specs.{Holders.{packet_at, packet_from}, declared.holders.TheConstants.MOST_INPUTS}, std.proofs.Common.{◌-◌, ◌≡◌}}

-- what is left tells it
abbrev pub invariant-loop-turn : Rattle.c104_rows.proofs.holders.packet_at.Given.invariant-loop-turn
invariant-loop-turn l = packet_from l.net (MOST_INPUTS - l._turn) l.at ≡ packet_at l.net l.fn.input
