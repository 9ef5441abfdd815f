use Rattle.std.proofs.Common.{take, ◌≡◌}

-- the copies so far
abbrev pub invariant-loop-posted : Rattle.c104_node.proofs.terminal.copies.copy_sent.Given.invariant-loop-posted
invariant-loop-posted l = l.list.items ≡ take l.posted-index l.sent
