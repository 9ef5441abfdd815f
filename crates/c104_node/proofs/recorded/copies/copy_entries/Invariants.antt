use Rattle.std.proofs.Common.{take, ◌≡◌}

-- the copies so far
abbrev pub invariant-loop-entry : Rattle.c104_node.proofs.recorded.copies.copy_entries.Given.invariant-loop-entry
invariant-loop-entry l = l.list.items ≡ take l.entry-index l.entries
