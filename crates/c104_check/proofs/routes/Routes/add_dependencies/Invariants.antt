use Rattle.c104_check.specs.{Dependencies.{AreListedBelow, IsExtended}, Trails.routes_in}

-- the dependencies by the headers so far are listed
abbrev pub invariant-loop-header : Rattle.c104_check.proofs.routes.Routes.add_dependencies.Given.invariant-loop-header
invariant-loop-header l = record {
  kept : IsExtended (routes_in l.self) l.header l.fn.table l.table;
  listed : AreListedBelow (routes_in l.self) l.table l.header;
}
