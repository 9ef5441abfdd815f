use Rattle.c104_check.{proofs.DependencyLemmas.{extended_more, from_all, from_next, link_depends}, specs.Trails.routes_in}
use Rattle.std.proofs.Common.{arith, ◌+◌}
use Rattle.c104_check.proofs.routes.Routes.add_at_input.Goals as goal

pub add_over_link-requires-clause-depends : goal.add_over_link-requires-clause-depends
add_over_link-requires-clause-depends c = λ q wired. link_depends (routes_in c.args.self.now) c.args.header c.loop-link.link c.in-Some.group c.args.at q c.requires.arrives c.in-Some.ensures (omega (arith, c.loop-link.auto.link, c.in-Some.ensures.in_order)) (omega (arith, c.loop-link-test.true, c.in-Some.ensures.in_order)) wired

pub loop-link-preserved : goal.loop-link-preserved
loop-link-preserved c = record {
  kept = extended_more (routes_in c.args.self.now) (c.args.header + 1) (c.args.header + 1) c.args.table.now c.loop-link.table c.add_over_link.new.table c.loop-link.invariant.kept c.add_over_link.ensures.kept;
  listed = from_next (routes_in c.args.self.now) (c.args.header + 1) c.args.header c.args.at c.in-Some.group.first c.loop-link.link c.loop-link.table c.add_over_link.new.table c.add_over_link.ensures.kept c.loop-link.invariant.listed c.add_over_link.ensures.listed;
}

pub returns-clause-listed : goal.returns-clause-listed
returns-clause-listed c = from_all (routes_in c.args.self.now) c.loop-link.table c.args.header c.in-Some.group c.args.at c.loop-link.link c.loop-link-test.false c.in-Some.ensures c.loop-link.invariant.listed
