use Rattle.{c104_switch.specs.Switch.new_input, std.proofs.Common.{replicate, ◌≡◌}}

-- this many inputs were made
abbrev pub invariant-loop : Rattle.c104_switch.proofs.inputs.InputsOf.new.Given.invariant-loop
invariant-loop g l = l.list.items ≡ replicate l.counter (new_input l.cap)
