use Rattle.{c104_check.{proofs.TrailLemmas.trail_first, specs.{Routes.SwitchPort, Trails.{IsTrail, routes_in}}}, std.proofs.Common.List}
use Rattle.std.proofs.Common.{[], subst, sym, ◌++◌, ◌∷◌}

pub walk_on-requires-clause-trail : Rattle.c104_check.proofs.routes.Routes.comes_from.Goals.walk_on-requires-clause-trail
walk_on-requires-clause-trail c = λ new. subst (λ (xs : List SwitchPort). IsTrail (routes_in c.args.self.now) c.args.header (xs ++ (c.args.at ∷ [])) c.args.at) (sym c.new-walk.ensures.items) (trail_first (routes_in c.args.self.now) c.args.header c.args.at c.requires)
