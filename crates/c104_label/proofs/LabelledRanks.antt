-- Where the labels of a plan are made by its shape, no inputs depend on one another in a cycle.
use Rattle.{c104_check.specs.{ChannelDependencies.IsAcyclic, Routes.routes_of}, c104_label.proofs.TreeRanks.tree_acyclic}
use Rattle.c104_label.specs.{Forests.Forest, TreeImages.{IsTreeImage, most_labels, total_count}, declared.faults.LabelFault.LabelFault}
use Rattle.{c104_plan.specs.{PlanImage.Image, Plans.{IsPlan, Plan}, declared.plans.Shape.TheVariants.Tree}, std.proofs.Common.{Err, IfOk}}
use Rattle.std.proofs.Common.{Ok, Result, sym, ℕ, ◌≡◌, ◌≤◌}

-- what the tree's labeller answers
pub tree_result_acyclic : (plan : Plan) (root : ℕ) (r : Result Image LabelFault) → IsPlan plan → Tree root ≡ plan.shape → IfOk r (λ image. (forest : Forest) × IsTreeImage plan root forest image) → IfOk r (λ _. total_count plan.terminals ≤ most_labels plan) → IfOk r (λ image. IsAcyclic (routes_of plan image))
tree_result_acyclic plan root (Ok image) kept shape (forest, is) few = tree_acyclic plan root forest image kept (sym shape) is few
tree_result_acyclic plan root (Err why) kept shape is few = tt
