use Rattle.{c104_label.{proofs.VisitLemmas.{all_wired, missing_is, none_missing}, specs.Trees.forest_of}, std.proofs.Common.{ap, length}}
use Rattle.c104_label.proofs.forests.spanning_tree.Goals as goal

pub returns-then-is_some-clause-refused : goal.returns-then-is_some-clause-refused
returns-then-is_some-clause-refused c = missing_is c.args.plan.now c.args.root (forest_of c.in_ok-forest.forest) c.tree_from.new.seen.items (length c.switches.result.now) c.first_missing.result c.is_some.result c.in_ok-forest.ensures.tree c.in_ok-forest.ensures.visited (ap length c.switches.ensures.switches) c.first_missing.ensures c.is_some.ensures c.if-is_some.true

pub returns-clause-tree : goal.returns-clause-tree
returns-clause-tree c = none_missing c.args.plan.now c.args.root (forest_of c.in_ok-forest.forest) c.tree_from.new.seen.items (length c.switches.result.now) c.first_missing.result c.is_some.result c.in_ok-forest.ensures.tree c.in_ok-forest.ensures.visited (ap length c.switches.ensures.switches) c.first_missing.ensures c.is_some.ensures c.if-is_some.false

pub returns-clause-connected : goal.returns-clause-connected
returns-clause-connected c = all_wired c.args.plan.now c.args.root (forest_of c.in_ok-forest.forest) (returns-clause-tree c)
