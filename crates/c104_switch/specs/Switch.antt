-- The state of one switch, over any kind of token, and the actions on one side of one link.
-- A step answers None where it is not ready.
pub use Rattle.c104_switch.specs.Phases.{Fresh, Head, Phase, Sinking, Stream, Want}
use Rattle.c104_link.specs.{Buffers.{Incoming, Outgoing, empty_incoming, empty_outgoing}, Steps.{require, step_at, yield_step_at, ◌>>=◌}}
use Rattle.{c104_link.specs.Steps.◌>>◌, c104_regs.specs.{Settings.reset_settings, declared.registers.TheConstants.LINKS}}
use Rattle.{c104_regs.specs.declared.settings.Settings.Settings, c104_switch.specs.Phases.is_stream}
use Rattle.std.specs.Prelude.{Bool, List, Option, Some, [], false, min, replicate, true, ℕ, ◌+◌, ◌-◌, ◌^◌, ◌||◌, ◌∷◌}
use Rattle.c104_link.specs.Buffers as buffer

-- the input side of a link: its buffer, what it does with its next token (with the tokens of a header that
-- it reads or that waits), and how many packets it dropped and found too short
pub record Input (A : Type 0) : Type 0 where
  pub buffer : Incoming A
  pub phase : Phase (List A)
  pub sunk : ℕ
  pub short : ℕ

-- a switch: what is set at each link, and the two sides of each link
pub record Switch (A : Type 0) : Type 0 where
  pub started : Bool
  pub settings : List Settings
  pub inputs : List (Input A)
  pub outputs : List (Outgoing A)

-- the largest count: what a register of 32 bits holds
abbrev pub largest_count : ℕ
largest_count = 2 ^ 32 - 1

-- a count, or one more where there is one; it stays at the largest
abbrev pub count_after : ℕ → Bool → ℕ
count_after n false = n
count_after n true = min (n + 1) largest_count

-- whether some input streams to output o, and so owns it
abbrev pub is_owned : {A : Type 0} → List (Input A) → ℕ → Bool
is_owned [] o = false
is_owned (p ∷ inputs) o = is_stream o p.phase || is_owned inputs o

-- the input with this buffer
abbrev pub with_buffer : {A : Type 0} → Input A → Incoming A → Input A
with_buffer p b = record p { buffer = b }

-- the switch with these inputs
abbrev pub with_inputs : {A : Type 0} → Switch A → List (Input A) → Switch A
with_inputs s ps = record s { inputs = ps }

-- the switch with these outputs
abbrev pub with_outputs : {A : Type 0} → Switch A → List (Outgoing A) → Switch A
with_outputs s qs = record s { outputs = qs }

-- the switch with these inputs and outputs
abbrev pub with_sides : {A : Type 0} → Switch A → List (Input A) × List (Outgoing A) → Switch A
with_sides s r = record s { inputs = r.0; outputs = r.1 }

-- a token comes in from the wire, where the input has granted one
abbrev pub input_accept : {A : Type 0} → A → Input A → Option (Input A)
input_accept x p = do
  b ← buffer.incoming_accept x p.buffer
  Some (with_buffer p b)

-- the same at the input of link l
abbrev pub switch_enter : {A : Type 0} → Switch A → ℕ → A → Option (Switch A)
switch_enter s l x = do
  ps ← step_at s.inputs l (input_accept x)
  Some (with_inputs s ps)

-- the first token of the output of link l goes out to the wire, and spends one credit
abbrev pub switch_leave : {A : Type 0} → Switch A → ℕ → Option (A × Switch A)
switch_leave s l = do
  r ← yield_step_at s.outputs l buffer.outgoing_emit
  Some (r.0, with_outputs s r.1)

-- an input grants eight more tokens, where its buffer has room for them
abbrev pub input_grant : {A : Type 0} → Input A → Option (Input A)
input_grant p = do
  b ← buffer.incoming_grant p.buffer
  Some (with_buffer p b)

-- the same of the input of link l, once the switch is started
abbrev pub switch_credit_out : {A : Type 0} → Switch A → ℕ → Option (Switch A)
switch_credit_out s l = do
  require s.started
  ps ← step_at s.inputs l input_grant
  Some (with_inputs s ps)

-- the output of link l may send eight more tokens, where its credit is then at most 64
abbrev pub switch_credit_in : {A : Type 0} → Switch A → ℕ → Option (Switch A)
switch_credit_in s l = do
  qs ← step_at s.outputs l buffer.outgoing_credited
  Some (with_outputs s qs)

-- an input at first: nothing came, and nothing is granted
abbrev pub new_input : {A : Type 0} → ℕ → Input A
new_input cap = record { buffer = empty_incoming cap; phase = Fresh; sunk = 0; short = 0 }

-- a switch at first, with these settings: nothing anywhere
abbrev pub new_switch_with : {A : Type 0} → ℕ → List Settings → Bool → Switch A
new_switch_with cap settings started = record {
  started = started;
  settings = settings;
  inputs = replicate LINKS (new_input cap);
  outputs = replicate LINKS empty_outgoing;
}

-- a new switch: reset, and not started
abbrev pub new_switch : {A : Type 0} → ℕ → Switch A
new_switch cap = new_switch_with cap (replicate LINKS reset_settings) false
