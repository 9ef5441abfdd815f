use Rattle.c104_check.specs.{Refusals.LandsBefore, Trails.routes_in, Walking.{AreGood, TellMet}, declared.walks.Goal.TheVariants.Owner}
use Rattle.std.proofs.Common.{[], length, ◌*◌, ◌≡◌}

-- the header comes where it should at each start so far, and what is marked holds
abbrev pub invariant-loop-number : Rattle.c104_check.proofs.routes.Routes.first_misled.Given.invariant-loop-number
invariant-loop-number l = record {
  before : LandsBefore (routes_in l.self) l.starts l.header l.number;
  good : AreGood (routes_in l.self) l.header (Owner l.owner) l.marks;
  met : TellMet (routes_in l.self) l.marks [];
  room : length l.marks ≡ length (routes_in l.self).settings * 32;
}
