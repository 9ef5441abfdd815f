use Rattle.c104_check.{proofs.DependencyLemmas.{never_listed, random_arrive, random_listed}, specs.Trails.routes_in}
use Rattle.c104_check.proofs.routes.Routes.add_as_random.Goals as goal

pub returns-then-not-randomized-clause-listed : goal.returns-then-not-randomized-clause-listed
returns-then-not-randomized-clause-listed c = never_listed (routes_in c.args.self.now) c.args.header c.args.table.now (c.requires.random c.if-not-randomized.true)

pub add_at_all-requires-clause-arrive : goal.add_at_all-requires-clause-arrive
add_at_all-requires-clause-arrive c = random_arrive (routes_in c.args.self.now) c.args.header c.in_ok-inputs.inputs.items c.as_slice.result.now c.as_slice.ensures.value c.in_ok-inputs.ensures.reached

pub returns-clause-listed : goal.returns-clause-listed
returns-clause-listed c = random_listed (routes_in c.args.self.now) c.args.header c.in_ok-inputs.inputs.items c.as_slice.result.now c.add_at_all.new.table c.as_slice.ensures.value c.in_ok-inputs.ensures.reached c.add_at_all.ensures.listed
