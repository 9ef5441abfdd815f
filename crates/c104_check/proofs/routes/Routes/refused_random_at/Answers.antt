use Rattle.c104_check.{proofs.{Homeless.{homeless_result, never_there}, RandomLemmas.random_at_tells}, specs.Trails.routes_in}
use Rattle.std.proofs.Common.{sym, ◌∙◌}
use Rattle.c104_check.proofs.routes.Routes.refused_random_at.Goals as goal

pub returns-then-not-is_random_at : goal.returns-then-not-is_random_at
returns-then-not-is_random_at c = never_there (routes_in c.args.self.now) c.args.header c.args.terminal c.entry-entry.result c.entry-entry.ensures.entry (sym c.is_random_at.ensures ∙ c.if-not-is_random_at.true)

pub returns : goal.returns
returns c = homeless_result (routes_in c.args.self.now) c.args.header c.args.terminal c.entry-entry.result c.homeless_at.result c.entry-entry.ensures.entry (random_at_tells (routes_in c.args.self.now) c.entry-entry.result c.args.header c.requires.below (sym c.is_random_at.ensures ∙ c.if-not-is_random_at.false)) c.homeless_at.ensures
