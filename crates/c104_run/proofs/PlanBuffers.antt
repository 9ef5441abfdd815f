-- The buffer size of a plan is a capacity that buffers may have.
use Rattle.{c104_link.specs.Buffers.IsValidCap, c104_plan.specs.Plans.{IsPlan, Plan}, std.proofs.{Common.arith, lemmas.Bool.and_parts}}
use Rattle.std.proofs.lemmas.Bool.{eqb-true, leb-true}

pub valid_cap : (plan : Plan) → IsPlan plan → IsValidCap plan.cap
valid_cap plan is_plan = search (arith, and_parts, eqb-true, leb-true)
