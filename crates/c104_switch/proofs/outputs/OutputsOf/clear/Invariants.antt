use Rattle.{c104_link.specs.Buffers.outgoing_clear, std.proofs.Common.{drop, map, take, ◌++◌, ◌≡◌}}

-- the outputs so far are cleared
abbrev pub invariant-loop-output : Rattle.c104_switch.proofs.outputs.OutputsOf.clear.Given.invariant-loop-output
invariant-loop-output g l = l.output-items ≡ map outgoing_clear (take l.output-index l.initial.output-items) ++ drop l.output-index l.initial.output-items
