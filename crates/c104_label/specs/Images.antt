-- The image of a plan: that of its own lines, or that of the labels of its shape.
use Rattle.c104_check.specs.{ChannelDependencies.IsAcyclic, Routes.{IsAccepted, routes_of}}
use Rattle.{c104_interval.specs.declared.intervals.Table.Table, c104_label.specs.{CubeLabels.{AreCubeTables, cube_table}, Forests.Forest}}
use Rattle.c104_label.specs.{Forests.IsSpanning, MeshLabels.{AreMeshTables, mesh_table}, TreeImages.{IsLabelCause, IsTreeImage}}
use Rattle.c104_label.specs.{TreeImages.{plan_labels, total_count}, TreeLabels.{AreInOrder, net_of, own_labels, tree_range}}
use Rattle.{c104_label.specs.declared.faults.LabelFault.LabelFault, c104_plan.specs.LabelledImages.{labelled_image, port_labelled_image}}
use Rattle.c104_plan.specs.{PlanImage.{Image, hand_image, range_of}, Plans.Plan, declared.plans.Shape.{Shape, TheVariants.{Cube, Hand}}}
use Rattle.c104_plan.specs.declared.plans.Shape.TheVariants.{Mesh, Tree, UpDown}
use Rattle.std.specs.{List.range_with_len, Prelude.{Bool, None, Option, Some, false, length, map, true, ℕ, ◌*◌, ◌<◌, ◌^◌, ◌≡◌, ◌⊎◌}}

-- the image of a plan whose switches have the tables of a mesh, which are right
pub record IsMeshImage (plan : Plan) (width height terminals : ℕ) (image : Image) : Type 0 where
  pub is : image ≡ labelled_image plan (map range_of plan.terminals) (map (mesh_table width height terminals) (range_with_len 0 (width * height)))
  pub tables : AreMeshTables width height terminals

-- the image of a plan whose switches have the tables of a cube, which are right
pub record IsCubeImage (plan : Plan) (dimensions terminals : ℕ) (image : Image) : Type 0 where
  pub is : image ≡ labelled_image plan (map range_of plan.terminals) (map (cube_table dimensions terminals) (range_with_len 0 (2 ^ dimensions)))
  pub tables : AreCubeTables dimensions terminals

-- the image of a plan that is labelled up and down from a root: the labels are those of the root's tree, each port that
-- has a wire has a table of its own, links continue groups beside those that do so by the plan's own lines, and all else is
-- as these lines say. Of the tables and groups it is said that by them each label comes to its terminal, and that no inputs
-- depend on one another in a cycle, but not which they are.
pub record IsUpDownImage (plan : Plan) (root : ℕ) (forest : Forest) (image : Image) : Type 0 where
  pub tree : IsSpanning plan root forest
  pub tables : ℕ → ℕ → Table
  pub groups : ℕ → ℕ → Bool
  pub is : image ≡ port_labelled_image plan (map (tree_range plan root forest) plan.terminals) tables groups
  pub labels : plan_labels plan root forest ≡ total_count plan.terminals
  pub order : AreInOrder (own_labels (net_of plan)) root forest
  pub accepted : IsAccepted (routes_of plan image)
  pub acyclic : IsAcyclic (routes_of plan image)

-- a root by which a plan is labelled up and down: the switch that is named, and else one of its switches
abbrev pub IsRootOf : Plan → Option ℕ → ℕ → Type 0
IsRootOf plan None root = root < length plan.switches
IsRootOf plan (Some named) root = root ≡ named

-- the image of a plan that is labelled up and down from such a root
abbrev pub IsUpDownMade : Plan → Option ℕ → Image → Type 0
IsUpDownMade plan named image = (root : ℕ) × IsRootOf plan named root × (forest : Forest) × IsUpDownImage plan root forest image

-- an image of a plan that is to be of this shape
abbrev pub IsImageBy : Shape → Plan → Image → Type 0
IsImageBy Hand plan image = image ≡ hand_image plan
IsImageBy (Tree root) plan image = (forest : Forest) × IsTreeImage plan root forest image
IsImageBy (UpDown named) plan image = IsUpDownMade plan named image
IsImageBy (Mesh width height terminals) plan image = IsMeshImage plan width height terminals image
IsImageBy (Cube dimensions terminals) plan image = IsCubeImage plan dimensions terminals image

-- the image of a plan
abbrev pub IsImageOf : Plan → Image → Type 0
IsImageOf plan image = IsImageBy plan.shape plan image

-- whether a plan of this shape is to be labelled as a tree, up and down, as a mesh, as a cube
abbrev pub is_tree_shape : Shape → Bool
is_tree_shape Hand = false
is_tree_shape (Tree root) = true
is_tree_shape (UpDown root) = false
is_tree_shape (Mesh width height terminals) = false
is_tree_shape (Cube dimensions terminals) = false

abbrev pub is_up_down_shape : Shape → Bool
is_up_down_shape Hand = false
is_up_down_shape (Tree root) = false
is_up_down_shape (UpDown root) = true
is_up_down_shape (Mesh width height terminals) = false
is_up_down_shape (Cube dimensions terminals) = false

abbrev pub is_mesh_shape : Shape → Bool
is_mesh_shape Hand = false
is_mesh_shape (Tree root) = false
is_mesh_shape (UpDown root) = false
is_mesh_shape (Mesh width height terminals) = true
is_mesh_shape (Cube dimensions terminals) = false

abbrev pub is_cube_shape : Shape → Bool
is_cube_shape Hand = false
is_cube_shape (Tree root) = false
is_cube_shape (UpDown root) = false
is_cube_shape (Mesh width height terminals) = false
is_cube_shape (Cube dimensions terminals) = true

-- whether the labels of a plan are made by its shape, and not by its own lines
abbrev pub is_labelled_shape : Shape → Bool
is_labelled_shape Hand = false
is_labelled_shape (Tree root) = true
is_labelled_shape (UpDown root) = true
is_labelled_shape (Mesh width height terminals) = true
is_labelled_shape (Cube dimensions terminals) = true

-- out of memory, and no other fault; nothing more is said of it
abbrev pub IsNoMemory : LabelFault → Type 0
IsNoMemory LabelFault.NotConnected = ⊥
IsNoMemory LabelFault.TooManyLabels = ⊥
IsNoMemory LabelFault.WrongShape = ⊥
IsNoMemory LabelFault.NoMemory = Unit {0}
IsNoMemory LabelFault.BadGroups = ⊥

-- why a plan isn't labelled up and down from a root: why it isn't labelled as a tree from it, or its own lines group links
abbrev pub IsRootCause : Plan → ℕ → LabelFault → Type 0
IsRootCause plan root LabelFault.NotConnected = IsLabelCause plan root LabelFault.NotConnected
IsRootCause plan root LabelFault.TooManyLabels = IsLabelCause plan root LabelFault.TooManyLabels
IsRootCause plan root LabelFault.WrongShape = ⊥
IsRootCause plan root LabelFault.NoMemory = Unit {0}
IsRootCause plan root LabelFault.BadGroups = 0 < length plan.continues

-- and why it isn't from such a root: that of one of these, or it has no switch
abbrev pub IsUpDownCause : Plan → Option ℕ → LabelFault → Type 0
IsUpDownCause plan named LabelFault.NotConnected =
    (length plan.switches ≡ 0) ⊎ ((root : ℕ) × IsRootOf plan named root × IsRootCause plan root LabelFault.NotConnected)
IsUpDownCause plan named LabelFault.TooManyLabels = (root : ℕ) × IsRootOf plan named root × IsRootCause plan root LabelFault.TooManyLabels
IsUpDownCause plan named LabelFault.WrongShape = ⊥
IsUpDownCause plan named LabelFault.NoMemory = Unit {0}
IsUpDownCause plan named LabelFault.BadGroups = 0 < length plan.continues

-- why a plan that is to be of this shape has no image
abbrev pub IsCauseBy : Shape → Plan → LabelFault → Type 0
IsCauseBy Hand plan why = IsNoMemory why
IsCauseBy (Tree root) plan why = IsLabelCause plan root why
IsCauseBy (UpDown named) plan why = IsUpDownCause plan named why
IsCauseBy (Mesh width height terminals) plan why = IsNoMemory why
IsCauseBy (Cube dimensions terminals) plan why = IsNoMemory why

-- why a plan has no image
abbrev pub IsImageCause : Plan → LabelFault → Type 0
IsImageCause plan why = IsCauseBy plan.shape plan why

-- why a labeller of one shape has no image of a plan, by whether the plan's shape is its own: where it is another,
-- for that alone, before all else; where it isn't, for what the plan has no image
abbrev pub IsShapeCause : Bool → Plan → LabelFault → Type 0
IsShapeCause false plan why = why ≡ LabelFault.WrongShape
IsShapeCause true plan why = IsImageCause plan why
