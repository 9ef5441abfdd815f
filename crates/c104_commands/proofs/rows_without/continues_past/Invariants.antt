use Rattle.{c104_commands.specs.WithoutWires.continues_past, std.proofs.Common.{take, ◌≡◌}}

-- those so far that are left are there
abbrev pub invariant-loop-port : Rattle.c104_commands.proofs.rows_without.continues_past.Given.invariant-loop-port
invariant-loop-port l = l.continues.items ≡ continues_past l.wire (take l.port-index l.port-items)
