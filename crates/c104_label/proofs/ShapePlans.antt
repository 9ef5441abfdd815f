-- How many switches a plan of a mesh or of a cube has.
use Rattle.{c104_plan.specs.{Plans.{IsPlan, Plan}, declared.plans.Shape.TheVariants.{Cube, Mesh}}, std.proofs.Common.{arith, length, ℕ}}
use Rattle.std.proofs.{Common.{◌*◌, ◌^◌, ◌≡◌}, lemmas.List.FromFn.length-map-range_with_len}

pub mesh_switches : (plan : Plan) (w h p : ℕ) → IsPlan plan → plan.shape ≡ Mesh w h p → length plan.switches ≡ w * h
mesh_switches plan w h p kept is = search (arith, length-map-range_with_len)

pub cube_switches : (plan : Plan) (d p : ℕ) → IsPlan plan → plan.shape ≡ Cube d p → length plan.switches ≡ 2 ^ d
cube_switches plan d p kept is = search (arith, length-map-range_with_len)
