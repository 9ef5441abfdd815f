use Rattle.{c104_label.{proofs.VisitLemmas.{tree_root, visit_root}, specs.Forests.ends_of}, std.proofs.Common.length}
use Rattle.c104_label.proofs.forests.tree_from.Goals as goal

pub visit-requires-clause-visited : goal.visit-requires-clause-visited
visit-requires-clause-visited c = visit_root (length c.args.plan.now.switches) c.args.root c.args.seen.now.items c.add.new.seen.items c.requires.root c.requires.none c.in_ok-add.ensures

pub returns-clause-tree : goal.returns-clause-tree
returns-clause-tree c = tree_root _ (ends_of c.args.plan.now) c.args.root c.args.seen.now.items c.add.new.seen.items c.visit.result c.requires.none c.in_ok-add.ensures c.visit.ensures.grown
