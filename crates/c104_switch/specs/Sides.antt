-- A step of inputs, or of one, and of the outputs beside.
use Rattle.c104_link.specs.Steps.{bool_outcome}
use Rattle.std.specs.Prelude.{Bool, Option, ◌≡◌}

-- the step was tried: whether it was made, and both sides after it, or as they were
abbrev pub IsOutcome : {P Q : Type 0} → Option (P × Q) → P → Q → Bool → P → Q → Type 0
IsOutcome {P} {Q} step p q made new_p new_q = ◌≡◌ {A = Bool × (P × Q)} (made, (new_p, new_q)) (bool_outcome {S = P × Q} step (p, q))
