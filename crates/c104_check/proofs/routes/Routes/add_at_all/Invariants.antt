use Rattle.{c104_check.specs.{Dependencies.{AreListedAt, IsExtended}, Trails.routes_in}, std.proofs.Common.{take, ◌+◌}}
use Rattle.std.specs.List.{AllByRecursion}

-- the dependencies of the inputs so far are listed
abbrev pub invariant-loop-at : Rattle.c104_check.proofs.routes.Routes.add_at_all.Given.invariant-loop-at
invariant-loop-at l = record {
  kept : IsExtended (routes_in l.self) (l.header + 1) l.fn.table l.table;
  listed : AllByRecursion (AreListedAt (routes_in l.self) l.table l.header) (take l.at-index l.inputs);
}
