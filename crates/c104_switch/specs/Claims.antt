-- A claim: an input that wants a group gets one output of it, until its packet's terminator has passed.
use Rattle.c104_link.specs.{Buffers.Outgoing, Steps.{joint_step_at, require, step_at, ◌>>=◌, ◌>>◌}}
use Rattle.{c104_regs.specs.declared.{registers.TheConstants.LINKS, settings.Settings.Settings}, c104_switch.specs.Group.is_in_group}
use Rattle.c104_switch.specs.{Phases.is_want, Sides.IsOutcome, Switch.{Fresh, Head, Input, Phase, Sinking, Stream, Switch, Want, is_owned}}
use Rattle.c104_switch.specs.Switch.{with_sides}
use Rattle.std.specs.{Option.option_map_or, Prelude.{Bool, IfSome, List, None, Option, Some, false, if◌then◌else◌, not, slice_get, true}}
use Rattle.std.specs.Prelude.{unwrap_or, ℕ, ◌<◌, ◌≡◌, ◌≤◌}
use Rattle.c104_link.specs.Buffers as buffer

-- the input, which from now on owns output o and streams to it
abbrev pub streaming_input : {A : Type 0} → Input A → ℕ → Input A
streaming_input p o = record p { phase = Stream o }

-- the header joins the output as a whole, or the output's link deletes it
abbrev pub put_header : {A : Type 0} → Settings → List A → Outgoing A → Option (Outgoing A)
put_header s b q = if s.delete_header then Some q else buffer.outgoing_put_all b q

-- the same of output o of all, as the settings of its own link say
abbrev pub put_own : {A : Type 0} → List Settings → ℕ → List A → List (Outgoing A) → Option (List (Outgoing A))
put_own settings o b qs = do
  t ← slice_get settings o
  step_at qs o (put_header t b)

-- the header goes to output o of the group that is wanted, and the rest will follow
abbrev pub input_claim : {A : Type 0} → List Settings → Input A → List (Outgoing A) → ℕ → Phase (List A) → Option (Input A × List (Outgoing A))
input_claim settings p qs o (Want b g) = do
  require (is_in_group settings g o)
  t ← slice_get settings o
  rs ← step_at qs o (put_header t b)
  Some (streaming_input p o, rs)
input_claim settings p qs o Fresh = None
input_claim settings p qs o (Head b) = None
input_claim settings p qs o (Stream q) = None
input_claim settings p qs o Sinking = None

-- input i claims output o, which no input owns
abbrev pub inputs_claim : {A : Type 0} → List Settings → List (Input A) → List (Outgoing A) → ℕ → ℕ → Option (List (Input A) × List (Outgoing A))
inputs_claim settings ps qs i o = do
  require (not (is_owned ps o))
  joint_step_at ps i (λ p. input_claim settings p qs o p.phase)

-- the same in a switch that is started
abbrev pub switch_claim : {A : Type 0} → Switch A → ℕ → ℕ → Option (Switch A)
switch_claim s i o = do
  require s.started
  r ← inputs_claim s.settings s.inputs s.outputs i o
  Some (with_sides s r)

-- whether input i wants an output; past the last link none does
abbrev pub is_wanting : {A : Type 0} → List (Input A) → ℕ → Bool
is_wanting ps i = option_map_or (λ p. is_want p.phase) (slice_get ps i) false

-- the next link, from this one on, of which a test is so: each one before it was passed over. Where none
-- was found all were.
abbrev pub IsNextLink : (ℕ → Bool) → ℕ → Option ℕ → Type 0
IsNextLink test from found =
    ((l : ℕ) → from ≤ l → l < unwrap_or found LINKS → test l ≡ false)
    × IfSome found (λ l. (from ≤ l) × (l < LINKS) × (test l ≡ true))

-- a claim of output o was tried: whether it was made, and the input and the outputs after it, or as they were
abbrev pub IsClaim : {A : Type 0} → List Settings → ℕ → Input A → List (Outgoing A) → Bool → Input A → List (Outgoing A) → Type 0
IsClaim settings o p qs = IsOutcome (input_claim settings p qs o p.phase) p qs

-- the same of input i of all
abbrev pub IsClaimAt : {A : Type 0} → List Settings → ℕ → ℕ → List (Input A) → List (Outgoing A) → Bool → List (Input A) → List (Outgoing A) → Type 0
IsClaimAt settings i o ps qs = IsOutcome (inputs_claim settings ps qs i o) ps qs
