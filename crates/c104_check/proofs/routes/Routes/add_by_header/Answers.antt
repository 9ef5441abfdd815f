use Rattle.{c104_check.{proofs.DependencyLemmas.{both_listed, extended_more}, specs.Trails.routes_in}, std.proofs.Common.◌+◌}
use Rattle.c104_check.proofs.routes.Routes.add_by_header.Goals as goal

pub returns-clause-kept : goal.returns-clause-kept
returns-clause-kept c = extended_more (routes_in c.args.self.now) (c.args.header + 1) (c.args.header + 1) c.args.table.now c.add_as_own.new.table c.add_as_random.new.table c.in_ok-add_as_own.ensures.kept c.in_ok-add_as_random.ensures.kept

pub returns-clause-listed : goal.returns-clause-listed
returns-clause-listed c = both_listed (routes_in c.args.self.now) (c.args.header + 1) c.args.header c.add_as_own.new.table c.add_as_random.new.table c.in_ok-add_as_random.ensures.kept c.in_ok-add_as_own.ensures.listed c.in_ok-add_as_random.ensures.listed
