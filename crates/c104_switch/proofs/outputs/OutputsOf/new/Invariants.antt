use Rattle.{c104_link.specs.Buffers.empty_outgoing, std.proofs.Common.{replicate, ◌≡◌}}

-- this many outputs were made
abbrev pub invariant-loop : Rattle.c104_switch.proofs.outputs.OutputsOf.new.Given.invariant-loop
invariant-loop g l = l.list.items ≡ replicate l.counter empty_outgoing
