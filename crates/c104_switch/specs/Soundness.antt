-- What every switch keeps: as many links as there are, buffers within their bounds, and no output with two owners.
use Rattle.{c104_link.specs.Buffers.{IsWithinCap, IsWithinLimits}, c104_regs.specs.declared.registers.TheConstants.LINKS}
use Rattle.c104_switch.specs.Switch.{Input, Stream, Switch}
use Rattle.std.specs.Prelude.{All, List, Some, length, slice_get, ℕ, ◌≡◌}

-- no two inputs stream to one output
abbrev pub IsExclusive : {A : Type 0} → List (Input A) → Type 0
IsExclusive {A} inputs = (i j o : ℕ) (p q : Input A) → slice_get inputs i ≡ Some p → slice_get inputs j ≡ Some q → p.phase ≡ Stream o → q.phase ≡ Stream o → i ≡ j

-- the invariant of a switch
pub record IsSound {A : Type 0} (s : Switch A) : Type 0 where
  pub settings : length s.settings ≡ LINKS
  pub inputs : length s.inputs ≡ LINKS
  pub outputs : length s.outputs ≡ LINKS
  -- tokens and granted are at most the buffer's capacity
  pub within_cap : All (λ (p : Input A). IsWithinCap p.buffer) s.inputs
  -- at most eight tokens, and at most 64 credits
  pub within_limits : All IsWithinLimits s.outputs
  pub exclusive : IsExclusive s.inputs
