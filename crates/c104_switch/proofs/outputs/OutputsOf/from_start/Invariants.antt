use Rattle.{c104_switch.specs.Starts.start_output, std.proofs.Common.{map, take, ◌≡◌}}

-- this many outputs were made
abbrev pub invariant-loop-link : Rattle.c104_switch.proofs.outputs.OutputsOf.from_start.Given.invariant-loop-link
invariant-loop-link g l = l.list.items ≡ map start_output (take l.link-index l.links)
