use Rattle.c104_check.{proofs.DependencyLemmas.never_by, specs.{ChannelDependencies.IsNeverRandomized, Checks.IsFirstLink}}
use Rattle.c104_check.specs.{Routes.IsRandomized, Trails.routes_in}

pub returns : Rattle.c104_check.proofs.routes.Routes.is_ever_randomized.Goals.returns
returns c =
    let routes = routes_in c.args.self.now in
    never_by (IsNeverRandomized routes) (IsFirstLink (IsRandomized routes)) c.first_randomized.result c.is_some.result c.is_some.ensures c.first_randomized.ensures
