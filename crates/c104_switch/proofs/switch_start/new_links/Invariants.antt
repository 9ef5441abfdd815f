use Rattle.{c104_switch.specs.Starts.new_link, std.{proofs.Common.{replicate, ◌≡◌, ◌≤◌}, specs.Vec.vec_capacity}}

-- this many links were made, and there is room for all
abbrev pub invariant-loop : Rattle.c104_switch.proofs.switch_start.new_links.Given.invariant-loop
invariant-loop l = record {
  made : l.list.items ≡ replicate l.counter (new_link l.cap);
  room : 32 ≤ vec_capacity l.list;
}
