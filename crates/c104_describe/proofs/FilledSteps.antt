-- What one more switch or link adds to the wires of a filled plan.
use Rattle.c104_plan.specs.{Layouts.{cube, mesh, mesh_beyond, wire_at, wire_to, wires_from}, declared.ports.{Port.Port, Wire.Wire}}
use Rattle.std.proofs.Common.{List, None, Option, Some, append-nil, append_assoc, arith, false, true, ℕ, ◌%◌, ◌++◌, ◌+◌, ◌/◌, ◌==◌, ◌^◌}
use Rattle.std.proofs.Common.{◌≡◌}

-- a mesh's switch: the wires to the column after it and to the row below it
pub mesh_next : (w h s : ℕ) (so_far next last : List Wire) (after below : Option Port) → next ≡ so_far ++ wire_to (Port.Switch s 2) after → last ≡ next ++ wire_to (Port.Switch s 3) below
    → after ≡ mesh_beyond w h s 2 → below ≡ mesh_beyond w h s 3 → last ≡ so_far ++ wires_from (mesh w h) s
mesh_next w h s so_far next last after below first second is_after is_below = search (arith, append_assoc, append-nil)

-- a cube's link at which a wire begins, and one at which none does
pub cube_begins : (d s l size : ℕ) → size ≡ 2 ^ l → (s / size % 2 == 0) ≡ true → wire_to (Port.Switch s l) (Some (Port.Switch (s + size) l)) ≡ wire_at (cube d) s l
cube_begins d s l size is clear = search arith

pub cube_ends : (d s l size : ℕ) → size ≡ 2 ^ l → (s / size % 2 == 0) ≡ false → wire_to (Port.Switch s l) None ≡ wire_at (cube d) s l
cube_ends d s l size is set = search arith
