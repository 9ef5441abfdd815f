-- Stages: what an input keeps of its phase, with the tokens of a header beside it.
use Rattle.c104_switch.specs.{Phases.Phase, declared.input.stage.Stage.{Stage, TheVariants.{Fresh, Head, Sinking, Stream, Want}}}
use Rattle.std.specs.Prelude.{List, None, Option, Some, ℕ}
use Rattle.c104_switch.specs.Phases as phases

-- the phase of a stage, with these tokens of a header
abbrev pub stage_phase : {A : Type 0} → Stage → List A → Phase (List A)
stage_phase Fresh header = phases.Fresh
stage_phase Head header = phases.Head header
stage_phase (Want g) header = phases.Want header g
stage_phase (Stream claim) header = phases.Stream claim
stage_phase Sinking header = phases.Sinking

-- the output whose claim the stage is
abbrev pub stage_output : Stage → Option ℕ
stage_output Fresh = None
stage_output Head = None
stage_output (Want g) = None
stage_output (Stream claim) = Some claim
stage_output Sinking = None
