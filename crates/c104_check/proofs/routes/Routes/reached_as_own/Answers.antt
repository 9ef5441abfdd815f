use Rattle.c104_check.{proofs.ReachLemmas.reached_just, specs.{Parts.{AreJust, IsBeginning, IsReachedAsOwn}, Trails.routes_in}}
use Rattle.std.proofs.Common.{subst, sym}

pub returns-clause-reached : Rattle.c104_check.proofs.routes.Routes.reached_as_own.Goals.returns-clause-reached
returns-clause-reached c =
    subst (AreJust (IsReachedAsOwn (routes_in c.args.self.now) c.args.header)) (sym c.into_inputs.ensures)
    (reached_just (routes_in c.args.self.now) c.args.header (IsBeginning (routes_in c.args.self.now)) c.add_beginnings.new.inputs c.add_reached.new.inputs c.in_ok-add_beginnings.ensures.beginnings c.in_ok-add_reached.ensures.reached)
