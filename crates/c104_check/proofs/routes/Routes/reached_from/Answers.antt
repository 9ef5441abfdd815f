use Rattle.c104_check.{proofs.{PartLemmas.one_just, ReachLemmas.reached_just}, specs.{Parts.{AreJust, IsReachedFrom}, Trails.routes_in}}
use Rattle.std.proofs.Common.{subst, sym, ◌≡◌}
use Rattle.c104_check.proofs.routes.Routes.reached_from.Goals as goal

pub add_reached-requires-clause-distinct : goal.add_reached-requires-clause-distinct
add_reached-requires-clause-distinct c = (one_just (routes_in c.args.self.now) c.args.at c.in_ok-inputs.inputs c.add.new.self c.requires c.in_ok-inputs.ensures c.in_ok-add.ensures).0

pub returns-clause-reached : goal.returns-clause-reached
returns-clause-reached c =
    subst (AreJust (IsReachedFrom (routes_in c.args.self.now) c.args.header (λ x. c.args.at ≡ x))) (sym c.into_inputs.ensures)
    (reached_just (routes_in c.args.self.now) c.args.header (λ x. c.args.at ≡ x) c.add.new.self c.add_reached.new.inputs
    (one_just (routes_in c.args.self.now) c.args.at c.in_ok-inputs.inputs c.add.new.self c.requires c.in_ok-inputs.ensures c.in_ok-add.ensures).1 c.in_ok-add_reached.ensures.reached)
