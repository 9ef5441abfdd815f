-- The image of a plan's tree is one by which packets go up and then down, and so is one with its ranges that was checked.
use Rattle.c104_check.specs.{ChannelDependencies.IsAcyclic, Routes.{IsAccepted, routes_of}}
use Rattle.c104_label.{proofs.{TreeAccepted.spanning_accepted, TreeRanks.spanning_acyclic}, specs.{Forests.Forest, Images.IsRootCause}}
use Rattle.c104_label.specs.{Images.{IsRootOf, IsUpDownCause, IsUpDownImage, IsUpDownMade}, TreeImages.{IsTreeImage, most_labels}}
use Rattle.c104_label.specs.{TreeImages.total_count, TreeLabels.{switch_table, tree_range}, Trees.IsTreeCause, UpDownLabels.IsSound}
use Rattle.{c104_label.specs.declared.faults.LabelFault.LabelFault, c104_plan.proofs.LabelledSettings.labelled_by_port}
use Rattle.c104_plan.specs.{LabelledImages.table_in, PlanImage.Image, Plans.{IsPlan, IsTreePlan, IsUpDownPlan, Plan}}
use Rattle.std.proofs.Common.{IfOk, List, None, Option, Result, Some, [], arith, false, inl, inr, length, map, refl, subst, sym, ℕ, ◌<◌}
use Rattle.std.{proofs.Common.{◌∙◌, ◌∷◌, ◌≡◌, ◌≤◌, ◌⊎◌}, specs.List.range_with_len}

pub tree_up_down : (plan : Plan) (root : ℕ) (forest : Forest) (image : Image) → IsPlan plan → IsTreePlan root plan → total_count plan.terminals ≤ most_labels plan → IsTreeImage plan root forest image → IsUpDownImage plan root forest image
tree_up_down plan root forest image kept is_tree few is =
    let labels = is.labels in
    record {
      tree = is.tree;
      tables = λ switch link. table_in (map (switch_table plan root forest) (range_with_len 0 (length plan.switches))) switch;
      groups = λ switch link. false;
      is = is.is ∙ labelled_by_port plan (map (tree_range plan root forest) plan.terminals) (map (switch_table plan root forest) (range_with_len 0 (length plan.switches)));
      labels = is.labels;
      order = is.order;
      accepted = subst (λ (other : Image). IsAccepted (routes_of plan other)) (sym is.is) (spanning_accepted plan kept root is_tree forest is.tree (omega (arith, labels, few)));
      acyclic = subst (λ (other : Image). IsAcyclic (routes_of plan other)) (sym is.is) (spanning_acyclic plan kept root is_tree forest is.tree (omega (arith, labels, few)));
    }

none_of : {X : Type 0} (xs : List X) → length xs ≡ 0 → xs ≡ []
none_of [] is = refl
none_of (x ∷ xs) is = absurd (omega (arith, is))

-- without groups of its own lines a plan to be labelled up and down is one to be labelled as a tree from any root
as_tree : (plan : Plan) (named : Option ℕ) (root : ℕ) → IsUpDownPlan named plan → root < length plan.switches → plan.continues ≡ [] → IsTreePlan root plan
as_tree plan named root is inside none = record {
  inside = inside;
  firsts = is.firsts;
  counts = is.counts;
  unset = record { continues = none; bases = is.unset.bases; rows = is.unset.rows; randoms = is.unset.randoms };
}

-- and its tree's image is one by which packets go up and down, where there are no such groups, or it was checked with them
pub tree_stands : (plan : Plan) (named : Option ℕ) (root : ℕ) (forest : Forest) (image : Image) → IsPlan plan → IsUpDownPlan named plan → root < length plan.switches → total_count plan.terminals ≤ most_labels plan → IsTreeImage plan root forest image
    → (length plan.continues ≡ 0) ⊎ IsSound plan image → IsUpDownImage plan root forest image
tree_stands plan named root forest image kept is_plan inside few is (inl none) = tree_up_down plan root forest image kept (as_tree plan named root is_plan inside (none_of plan.continues none)) few is
tree_stands plan named root forest image kept is_plan inside few is (inr sound) = record {
  tree = is.tree;
  tables = λ switch link. table_in (map (switch_table plan root forest) (range_with_len 0 (length plan.switches))) switch;
  groups = λ switch link. false;
  is = is.is ∙ labelled_by_port plan (map (tree_range plan root forest) plan.terminals) (map (switch_table plan root forest) (range_with_len 0 (length plan.switches)));
  labels = is.labels;
  order = is.order;
  accepted = sound.accepted;
  acyclic = sound.acyclic;
}

-- a root is one of the plan's switches
pub root_inside : (plan : Plan) (named : Option ℕ) (root : ℕ) → IsUpDownPlan named plan → IsRootOf plan named root → root < length plan.switches
root_inside plan None root is of = of
root_inside plan (Some named) root is of = omega (arith, of, is.inside)

-- why there is no tree from a root is why there are no labels up and down from it
pub tree_cause : (plan : Plan) (root : ℕ) (why : LabelFault) → IsTreeCause plan root why → IsRootCause plan root why
tree_cause plan root LabelFault.NotConnected is = is
tree_cause plan root LabelFault.TooManyLabels is = absurd is
tree_cause plan root LabelFault.WrongShape is = absurd is
tree_cause plan root LabelFault.NoMemory is = tt
tree_cause plan root LabelFault.BadGroups is = absurd is

-- and from the root of a plan
pub root_cause : (plan : Plan) (named : Option ℕ) (root : ℕ) (why : LabelFault) → IsRootOf plan named root → IsRootCause plan root why → IsUpDownCause plan named why
root_cause plan named root LabelFault.NotConnected of is = inr (root, of, is)
root_cause plan named root LabelFault.TooManyLabels of is = (root, of, is)
root_cause plan named root LabelFault.WrongShape of is = absurd is
root_cause plan named root LabelFault.NoMemory of is = tt
root_cause plan named root LabelFault.BadGroups of is = is

-- and so what is answered

pub up_down_accepted : (plan : Plan) (named : Option ℕ) (r : Result Image LabelFault) → IfOk r (IsUpDownMade plan named) → IfOk r (λ image. IsAccepted (routes_of plan image))
up_down_accepted plan named r is = search arith

pub up_down_acyclic : (plan : Plan) (named : Option ℕ) (r : Result Image LabelFault) → IfOk r (IsUpDownMade plan named) → IfOk r (λ image. IsAcyclic (routes_of plan image))
up_down_acyclic plan named r is = search arith
