use Rattle.c104_check.{proofs.ReachLemmas.reached_just, specs.{Parts.{AreJust, IsRandomBeginning, IsReachedAsRandom}, Trails.routes_in}}
use Rattle.std.proofs.Common.{subst, sym}

pub returns-clause-reached : Rattle.c104_check.proofs.routes.Routes.reached_as_random.Goals.returns-clause-reached
returns-clause-reached c =
    subst (AreJust (IsReachedAsRandom (routes_in c.args.self.now) c.args.header)) (sym c.into_inputs.ensures)
    (reached_just (routes_in c.args.self.now) c.args.header (IsRandomBeginning (routes_in c.args.self.now) c.args.header) c.add_random_entries.new.inputs c.add_reached.new.inputs c.in_ok-add_random_entries.ensures.entries c.in_ok-add_reached.ensures.reached)
