use Rattle.{c104_storm.specs.{Arrivals.{arrived_line, arrived_of}, declared.packets.Arrival.Arrival}, std.proofs.Common.{flat_map, take}}
use Rattle.std.proofs.Common.{◌++◌, ◌≡◌}

-- the lines so far have joined the text
abbrev pub invariant-loop-arrival : Rattle.c104_storm.proofs.packets.add_lines.Given.invariant-loop-arrival
invariant-loop-arrival l = l.text.items ≡ l.initial.text.items ++ flat_map (λ (a : Arrival). arrived_line l.plan l.terminal (arrived_of a)) (take l.arrival-index l.arrivals)
