use Rattle.{c104_check.specs.{Dependencies.{AreListedFrom, IsExtended}, Trails.routes_in}, std.proofs.Common.◌+◌}

-- what the links so far lead to is listed
abbrev pub invariant-loop-link : Rattle.c104_check.proofs.routes.Routes.add_at_input.Given.invariant-loop-link
invariant-loop-link l = record {
  kept : IsExtended (routes_in l.self) (l.header + 1) l.fn.table l.table;
  listed : AreListedFrom (routes_in l.self) l.table l.header l.at l.initial.link l.link;
}
