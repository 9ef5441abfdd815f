use Rattle.{c104_storm.specs.Arrivals.{AreAll, arrived_of}, std.proofs.Common.{map, take}}

-- the packets so far, with their origins
abbrev pub invariant-loop-place : Rattle.c104_storm.proofs.packets.all_arrivals.Given.invariant-loop-place
invariant-loop-place l = AreAll (take l.place l.packets) (take l.place l.origins) (map arrived_of l.arrivals.items)
