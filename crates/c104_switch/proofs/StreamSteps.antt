-- A turn of an input that streams to an output.
use Rattle.c104_link.specs.{Buffers.{Incoming, Outgoing, incoming_take, outgoing_put, without_first}, Steps.{bool_outcome, option_outcome}}
use Rattle.{c104_link.specs.Steps.step_at, c104_regs.specs.declared.settings.Settings.Settings, c104_switch.specs.Switch.{Input, Stream}}
use Rattle.{c104_switch.specs.Turns.{IsTurn, phase_after_token}, c104_token.specs.Kinds.Kind, std.proofs.Common.{Bool, List, Option, Some}}
use Rattle.std.proofs.{Common.{arith, is_some, length, slice_get, true, ℕ, ◌<◌, ◌≡◌}, lemmas.{Bool.cases_lt, Option.slice_get_past}}

-- what was taken is the first token
pub taken_first : {A : Type 0} (b c : Incoming A) (o : Option A) → ◌≡◌ {A = Option A × Incoming A} (o, c) (option_outcome (incoming_take b) b) → slice_get b.items 0 ≡ o
taken_first {A} b c o taken = search arith

-- where a step can be made, trying it makes it
pub tried_made : {S : Type 0} (step : Option S) (old new : S) (made : Bool) → is_some step ≡ true → ◌≡◌ {A = Bool × S} (made, new) (bool_outcome step old) → step ≡ Some new
tried_made step old new made can is = search arith

-- where a step of a list at a place can be made, the place is inside
pub inside_made : {X : Type 0} (xs : List X) (i : ℕ) (f : X → Option X) → is_some (step_at xs i f) ≡ true → i < length xs
inside_made xs i f can = search (arith, cases_lt, slice_get_past)

module _ {A : Type 0} (kind : Kind A) (s : Settings) (word : ℕ) (p : Input A) (qs : List (Outgoing A)) (o : ℕ) (streams : p.phase ≡ Stream o) where
  -- the first token goes on to the output
  pub gone_on : (x : A) (rs : List (Outgoing A)) (q : Input A) → slice_get p.buffer.items 0 ≡ Some x → step_at qs o (outgoing_put x) ≡ Some rs
      → q.buffer ≡ without_first p.buffer → q.phase ≡ phase_after_token kind x (Stream o) → q.sunk ≡ p.sunk → q.short ≡ p.short → IsTurn kind s word p qs true q rs
  gone_on x rs q first put buffer phase sunk short = search arith
