-- One turn of an input: what it does with its first token.
use Rattle.c104_link.specs.{Buffers.{Outgoing, without_first}, Steps.{joint_step_at, require, step_at, ◌>>=◌, ◌>>◌}}
use Rattle.{c104_regs.specs.declared.settings.Settings.Settings, c104_switch.specs.Headers.{phase_after_header, random_header}}
use Rattle.c104_switch.specs.{Sides.IsOutcome, Switch.{Fresh, Head, Input, Phase, Sinking, Stream, Switch, Want, count_after, with_sides}}
use Rattle.c104_token.specs.{Kinds.Kind, Tokens.is_end}
use Rattle.std.specs.Prelude.{Bool, List, None, Option, Some, [], false, if◌then◌else◌, not, slice_get, true, ℕ, ◌&&◌, ◌++◌, ◌∷◌}
use Rattle.c104_link.specs.Buffers as buffer

-- the input in this phase; one more packet is counted as dropped where sunk says so, and one more as too
-- short where short says so
abbrev pub input_in_phase : {A : Type 0} → Input A → Phase (List A) → Bool → Bool → Input A
input_in_phase p phase sunk short = record { buffer = p.buffer; phase = phase; sunk = count_after p.sunk sunk; short = count_after p.short short }

-- the same, without its first token
abbrev pub input_after_token : {A : Type 0} → Input A → Phase (List A) → Bool → Bool → Input A
input_after_token p phase sunk short = record { buffer = without_first p.buffer; phase = phase; sunk = count_after p.sunk sunk; short = count_after p.short short }

module _ {A : Type 0} (kind : Kind A) where
  -- the phase after this token of a packet whose header was read: a terminator ends it
  abbrev pub phase_after_token : A → Phase (List A) → Phase (List A)
  phase_after_token x phase = if is_end (kind.plain x) then Fresh else phase

  -- an input that reads this token of a header, after these: a terminator ends a packet too short
  abbrev pub header_turn : Settings → Input A → List A → A → Input A
  header_turn s p b x =
      if is_end (kind.plain x) then input_after_token p Fresh false true
      else (let r = phase_after_header kind s (b ++ x ∷ []) in input_after_token p r.0 r.1 false)

  -- an input that puts a random header before its packet, and uses no token
  abbrev pub random_turn : Settings → ℕ → Input A → Input A
  random_turn s word p = let r = phase_after_header kind s (random_header kind s word) in input_in_phase p r.0 r.1 false

  -- what the input and the outputs are after a turn in this phase, with this first token; None where it
  -- isn't ready: a header waits for its claim, or the output is full
  abbrev pub turn_by_phase : Settings → ℕ → Input A → List (Outgoing A) → Phase (List A) → A → Option (Input A × List (Outgoing A))
  turn_by_phase s word p qs Fresh x =
      if s.randomize && not (is_end (kind.plain x)) then Some (random_turn s word p, qs) else Some (header_turn s p [] x, qs)
  turn_by_phase s word p qs (Head b) x = Some (header_turn s p b x, qs)
  turn_by_phase s word p qs (Want b g) x = None
  turn_by_phase s word p qs (Stream o) x = do
    rs ← step_at qs o (buffer.outgoing_put x)
    Some (input_after_token p (phase_after_token x (Stream o)) false false, rs)
  turn_by_phase s word p qs Sinking x = Some (input_after_token p (phase_after_token x Sinking) false false, qs)

  -- what the input and the outputs are after a turn; None where it has no token, or isn't ready
  abbrev pub input_turn : Settings → ℕ → Input A → List (Outgoing A) → Option (Input A × List (Outgoing A))
  input_turn s word p qs = do
    x ← slice_get p.buffer.items 0
    turn_by_phase s word p qs p.phase x

  -- a turn of input i of all
  abbrev pub inputs_turn : Settings → ℕ → List (Input A) → List (Outgoing A) → ℕ → Option (List (Input A) × List (Outgoing A))
  inputs_turn s word ps qs i = joint_step_at ps i (λ p. input_turn s word p qs)

  -- a turn of input i of a switch that is started
  abbrev pub switch_input : Switch A → ℕ → ℕ → Option (Switch A)
  switch_input s i word = do
    require s.started
    t ← slice_get s.settings i
    r ← inputs_turn t word s.inputs s.outputs i
    Some (with_sides s r)

  -- a turn was tried: whether it was made, and the input and the outputs after it, or as they were
  abbrev pub IsTurn : Settings → ℕ → Input A → List (Outgoing A) → Bool → Input A → List (Outgoing A) → Type 0
  IsTurn s word p qs = IsOutcome (input_turn s word p qs) p qs

  -- the same of input i of all
  abbrev pub IsTurnAt : Settings → ℕ → ℕ → List (Input A) → List (Outgoing A) → Bool → List (Input A) → List (Outgoing A) → Type 0
  IsTurnAt s word i ps qs = IsOutcome (inputs_turn s word ps qs i) ps qs
