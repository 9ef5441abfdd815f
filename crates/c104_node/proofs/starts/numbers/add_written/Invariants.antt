use Rattle.{c104_node.proofs.WrittenValues.so_far, std.proofs.Common.{◌++◌, ◌≡◌}}

-- the values of the addresses so far
abbrev pub invariant-loop-addr : Rattle.c104_node.proofs.starts.numbers.add_written.Given.invariant-loop-addr
invariant-loop-addr l = l.list.items ≡ l.initial.list.items ++ so_far l.settings l.addr
