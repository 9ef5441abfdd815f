use Rattle.{c104_check.specs.{Starts.{AreOwnStarts, HaveDiscarding, HavePortals}, Trails.routes_in}, std.proofs.Common.take}
use Rattle.std.specs.List.{AllByRecursion}

-- of the inputs so far, those at which the header is discarded joined
abbrev pub invariant-loop-at : Rattle.c104_check.proofs.routes.Routes.add_discarding.Given.invariant-loop-at
invariant-loop-at l = record {
  starts : AreOwnStarts (routes_in l.self) l.starts.items l.terminal;
  before : HavePortals (routes_in l.self) l.entry l.starts.items l.header;
  all : AllByRecursion (HaveDiscarding (routes_in l.self) l.header l.starts.items) (take l.at-index l.inputs);
}
