use Rattle.std.proofs.Common.{length}

abbrev pub decreases-loop-node : Rattle.c104_run.proofs.net_parts.NetParts.retire.Given.decreases-loop-node
decreases-loop-node l = length l.nodes.items
