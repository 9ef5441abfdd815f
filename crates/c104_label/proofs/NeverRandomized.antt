-- No link of an image of a plan puts random headers before packets where no line of the plan says so, as in each
-- plan whose labels are made by its shape.
use Rattle.c104_check.specs.{ChannelDependencies.IsNeverRandomized, Routes.{or_no_settings, routes_of, settings_in}}
use Rattle.c104_label.proofs.{LabelledRoutes.{not_randomized, settings_plain}, MappedRanges.{map_at, map_was}}
use Rattle.c104_label.{proofs.PortRoutes.port_not_randomized, specs.{CubeLabels.cube_table, Forests.Forest, Images.IsImageBy}}
use Rattle.c104_label.specs.{Images.{IsUpDownMade, is_labelled_shape}, MeshLabels.mesh_table, TreeImages.IsTreeImage}
use Rattle.c104_label.specs.{TreeLabels.{switch_table, tree_range}, declared.faults.LabelFault.LabelFault}
use Rattle.c104_plan.specs.{PlanImage.{Image, hand_image, range_of, settings_of, switch_settings}, Plans.{IsOfShape, IsPlan, Plan}}
use Rattle.c104_plan.specs.declared.{plans.Shape.{Shape, TheVariants.{Cube, Hand, Mesh, Tree, UpDown}}, ports.Port.Port}
use Rattle.{c104_regs.specs.declared.settings.Settings.Settings, std.proofs.Common.{Err, IfOk, Ok, Option, Result, [], ap, arith, false}}
use Rattle.std.proofs.{Common.{inl, inr, length, map, refl, slice_get, subst, sym, true, ℕ, ◌*◌, ◌^◌, ◌∙◌, ◌≡◌}, lemmas.Bool.cases_lt}
use Rattle.std.{proofs.lemmas.{List.FromFn.length-map-range_with_len, Option.slice_get_past}, specs.List.range_with_len}

-- where labels are made by a plan's shape, its own lines say nothing of random headers
unset_by : (plan : Plan) (shape : Shape) → is_labelled_shape shape ≡ true → IsOfShape shape plan → plan.randoms ≡ []
unset_by plan shape is of = search arith

none_random : (plan : Plan) (shape : Shape) → IsPlan plan → shape ≡ plan.shape → is_labelled_shape shape ≡ true → plan.randoms ≡ []
none_random plan shape kept same is = unset_by plan shape is (subst (λ s. IsOfShape s plan) (sym same) kept.shape)

-- where a plan's own lines say what is set
hand_plain : (plan : Plan) → plan.randoms ≡ [] → IsNeverRandomized (routes_of plan (hand_image plan))
unfolding switch_settings
hand_plain plan none q random = elim (cases_lt q.switch (length plan.switches)) [
  | inl lt ↦
      let here : settings_in (hand_image plan).settings q.switch ≡ switch_settings plan q.switch = ap or_no_settings (map_at (switch_settings plan) (length plan.switches) q.switch lt) in
      let is = (map_was (λ link. settings_of plan (Port.Switch q.switch link)) 32 q.link random.0 (ap (λ xs. slice_get xs q.link) (sym here) ∙ random.1)).1 in
      let plain : random.0.randomize ≡ false = ap (λ (x : Settings). x.randomize) is ∙ settings_plain plan (Port.Switch q.switch q.link) none in
      let clash : true ≡ false = sym random.2 ∙ plain in absurd cc
  | inr ge ↦ search (arith, length-map-range_with_len, slice_get_past)
]

pub never_by : (plan : Plan) (image : Image) (shape : Shape) → plan.randoms ≡ [] → IsImageBy shape plan image → IsNeverRandomized (routes_of plan image)
never_by plan image Hand none is = subst (λ (i : Image). IsNeverRandomized (routes_of plan i)) (sym is) (hand_plain plan none)
never_by plan image (Tree root) none made = subst (λ (i : Image). IsNeverRandomized (routes_of plan i)) (sym made.1.is)
    (λ q random. not_randomized plan (map (tree_range plan root made.0) plan.terminals) (map (switch_table plan root made.0) (range_with_len 0 (length plan.switches))) q none random)
never_by plan image (UpDown named) none made = subst (λ (i : Image). IsNeverRandomized (routes_of plan i)) (sym made.3.is)
    (λ q random. port_not_randomized plan (map (tree_range plan made.0 made.2) plan.terminals) made.3.tables made.3.groups q none random)
never_by plan image (Mesh w h p) none made = subst (λ (i : Image). IsNeverRandomized (routes_of plan i)) (sym made.is)
    (λ q random. not_randomized plan (map range_of plan.terminals) (map (mesh_table w h p) (range_with_len 0 (w * h))) q none random)
never_by plan image (Cube d p) none made = subst (λ (i : Image). IsNeverRandomized (routes_of plan i)) (sym made.is)
    (λ q random. not_randomized plan (map range_of plan.terminals) (map (cube_table d p) (range_with_len 0 (2 ^ d))) q none random)

-- where labels are made by a plan's shape
pub by_shape : (plan : Plan) (image : Image) (shape : Shape) → IsPlan plan → shape ≡ plan.shape → is_labelled_shape shape ≡ true → IsImageBy shape plan image → IsNeverRandomized (routes_of plan image)
by_shape plan image shape kept same is made = never_by plan image shape (none_random plan shape kept same is) made

-- and so what the tree's labeller answers
pub result_plain : (plan : Plan) (root : ℕ) (r : Result Image LabelFault) → IsPlan plan → Tree root ≡ plan.shape → IfOk r (λ image. (forest : Forest) × IsTreeImage plan root forest image) → IfOk r (λ image. IsNeverRandomized (routes_of plan image))
result_plain plan root (Ok image) kept same made = by_shape plan image (Tree root) kept same refl made
result_plain plan root (Err why) kept same made = tt

-- and what the labeller up and down answers
pub up_down_plain : (plan : Plan) (named : Option ℕ) (r : Result Image LabelFault) → IsPlan plan → UpDown named ≡ plan.shape → IfOk r (IsUpDownMade plan named) → IfOk r (λ image. IsNeverRandomized (routes_of plan image))
up_down_plain plan named (Ok image) kept same made = by_shape plan image (UpDown named) kept same refl made
up_down_plain plan named (Err why) kept same made = tt
