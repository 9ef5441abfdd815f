-- The ends of wires: where a port is among the nodes of a network.
use Rattle.{c104_node.specs.declared.ends.End.End, c104_plan.specs.{Plans.Plan, declared.ports.Port.Port}}
use Rattle.std.specs.Prelude.{length, ◌+◌}

-- where a port is among the nodes: the switches stand first, then the terminals
abbrev pub end_of : Plan → Port → End
end_of plan (Port.Switch s l) = record { node = s; link = l }
end_of plan (Port.Terminal t) = record { node = length plan.switches + t; link = 0 }
