-- Over how many wires between switches a header goes.
--     Crosses routes h t n s i      by any choice in the groups, header h comes from an input to terminal t over n wires
--     mesh_distance, cube_distance      how many wires two switches of a mesh or of a cube are apart
use Rattle.c104_check.specs.{Routes.{IsEntryOf, Routes, is_in_group, select}, declared.ports.SwitchPort.SwitchPort}
use Rattle.{c104_interval.specs.declared.intervals.Select.TheVariants.Link, c104_label.specs.{CubeLabels.bit, LabelRows.owner}}
use Rattle.{c104_label.specs.MeshLabels.{mesh_column, mesh_row}, c104_plan.specs.declared.plans.Shape.{Shape, TheVariants.{Cube, Hand}}}
use Rattle.c104_plan.specs.declared.{plans.Shape.TheVariants.{Mesh, Tree, UpDown}, ports.Port.Port}
use Rattle.std.specs.Prelude.{None, Option, Some, if◌then◌else◌, suc, true, zero, ℕ, ◌*◌, ◌+◌, ◌-◌, ◌<◌, ◌==◌, ◌^◌, ◌≡◌}

-- a wire leads to an input from which the next holds
abbrev pub IsOver : (ℕ → ℕ → Type 0) → Option Port → Type 0
IsOver next None = ⊥
IsOver next (Some (Port.Terminal t)) = ⊥
IsOver next (Some (Port.Switch s i)) = next s i

-- header h at input i of switch s comes to terminal t by any choice in the groups, over exactly n wires
-- between switches
abbrev pub Crosses : Routes → ℕ → ℕ → ℕ → ℕ → ℕ → Type 0
Crosses routes h t zero s i =
    (g : ℕ) × (select routes s i h ≡ Some (Link g)) × ((o : ℕ) → is_in_group routes s g o ≡ true → routes.peer (Port.Switch s o) ≡ Some (Port.Terminal t))
Crosses routes h t (suc n) s i =
    (g : ℕ) × (select routes s i h ≡ Some (Link g)) × ((o : ℕ) → is_in_group routes s g o ≡ true → IsOver (Crosses routes h t n) (routes.peer (Port.Switch s o)))

-- the difference of two numbers
abbrev pub gap : ℕ → ℕ → ℕ
gap a b = (a - b) + (b - a)

-- two switches of a mesh of w columns are as many wires apart as they are rows and columns apart
abbrev pub mesh_distance : ℕ → ℕ → ℕ → ℕ
mesh_distance w s u = gap (mesh_row w s) (mesh_row w u) + gap (mesh_column w s) (mesh_column w u)

-- and of a cube as many as bits differ, of d bits
abbrev pub cube_distance : ℕ → ℕ → ℕ → ℕ
cube_distance zero x u = 0
cube_distance (suc k) x u = if bit x k == bit u k then cube_distance k x u else suc (cube_distance k x u)

-- from the input of each terminal each label, of a given number of them, comes to its terminal over as many wires as
-- the two switches are apart; each switch has p terminals
abbrev pub AllCross : Routes → ℕ → ℕ → (ℕ → ℕ → ℕ) → Type 0
AllCross routes labels p distance =
    (t l : ℕ) (at : SwitchPort) → IsEntryOf routes t at → l < labels → Crosses routes l l (distance (owner p t) (owner p l)) at.switch at.link

-- over how many wires labels go in a network of this shape: said of meshes and cubes alone
abbrev pub AreCrossings : Shape → Routes → Type 0
AreCrossings Hand routes = Unit {0}
AreCrossings (Tree root) routes = Unit {0}
AreCrossings (UpDown root) routes = Unit {0}
AreCrossings (Mesh width height terminals) routes = AllCross routes (width * height * terminals) terminals (mesh_distance width)
AreCrossings (Cube dimensions terminals) routes = AllCross routes (2 ^ dimensions * terminals) terminals (cube_distance dimensions)
