use Rattle.{c104_switch.specs.Starts.start_input, std.{proofs.Common.{length, map, take, ◌≡◌, ◌≤◌}, specs.Vec.vec_capacity}}

-- this many inputs were made, and there is room for the others
abbrev pub invariant-loop-link : Rattle.c104_switch.proofs.inputs.InputsOf.from_start.Given.invariant-loop-link
invariant-loop-link g l = record {
  made : l.list.items ≡ map start_input (take l.link-index l.links);
  room : length l.links ≤ vec_capacity l.list;
}
