use Rattle.c104_check.{proofs.BreakLemmas.so_far_alike, specs.Trails.routes_in}

pub returns-then-not-breaks-header : Rattle.c104_check.proofs.routes.Routes.refused_anew.Goals.returns-then-not-breaks-header
returns-then-not-breaks-header c = so_far_alike (routes_in c.args.self.now) c.args.breaks.now c.args.starts.now c.args.header c.args.count c.requires.network c.requires.breaks c.requires.starts c.requires.below c.if-not-breaks-header.true c.requires.before
