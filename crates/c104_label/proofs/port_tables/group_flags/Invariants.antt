use Rattle.std.proofs.Common.{length, ◌≡◌}

-- each link so far has its flag
abbrev pub invariant-loop-place : Rattle.c104_label.proofs.port_tables.group_flags.Given.invariant-loop-place
invariant-loop-place l = length l.flags.items ≡ l.place
