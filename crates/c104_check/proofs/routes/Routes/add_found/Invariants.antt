use Rattle.c104_check.specs.{Starts.{AreOwnStarts, HavePortals}, Trails.routes_in}

-- the portals of the random headers so far joined
abbrev pub invariant-loop-header : Rattle.c104_check.proofs.routes.Routes.add_found.Given.invariant-loop-header
invariant-loop-header l = record {
  starts : AreOwnStarts (routes_in l.self) l.starts.items l.terminal;
  portals : HavePortals (routes_in l.self) l.entry l.starts.items l.header;
}
