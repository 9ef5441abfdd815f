-- Labels that are refused for another fault than before are mended.
use Rattle.{c104_check.specs.{Checks.IsCause, Routes.routes_of, declared.faults.CheckFault.CheckFault}, c104_fixes.specs.Fixes.IsMended}
use Rattle.{c104_plan.specs.{PlanImage.{Fits, Image}, Plans.Plan}, std.proofs.Common.{Bool, IsTrue, false, inr, not, true, ◌↔◌, ◌≡◌, ◌≢◌}}

pub mended : (plan : Plan) (image : Image) (why other : CheckFault) (same : Bool) → Fits image plan → IsCause (routes_of plan image) other → other ≢ CheckFault.NoMemory → IsTrue same ↔ (other ≡ why) → not same ≡ true → IsMended plan why image
mended plan image why other true fits cause told tells differ = absurd (let clash : false ≡ true = differ in cc)
mended plan image why other false fits cause told tells differ = (fits, inr (other, cause, told, λ same. let clash : false ≡ true = tells.1 same in cc))
