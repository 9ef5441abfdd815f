use Rattle.{c104_switch.specs.Starts.link_starts, std.{proofs.Common.{take, ◌≡◌, ◌≤◌}, specs.Vec.vec_capacity}}

-- this many links were written, and there is room for all
abbrev pub invariant-loop-link : Rattle.c104_switch.proofs.switch_start.write_links.Given.invariant-loop-link
invariant-loop-link g l = record {
  written : l.links.items ≡ take l.link (link_starts l.inputs l.outputs);
  room : 32 ≤ vec_capacity l.links;
}
