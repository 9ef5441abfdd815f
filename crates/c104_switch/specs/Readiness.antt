-- Which links may be ready, as sets of links: what is kept beside the inputs and the outputs of a switch.
use Rattle.{c104_crossbar.specs.Groups.has_bit, c104_link.specs.Buffers.{Outgoing, outgoing_emit}}
use Rattle.{c104_regs.specs.declared.registers.TheConstants.LINKS, c104_switch.specs.{Phases.is_want, Switch.{Input, input_grant}}}
use Rattle.c104_switch.specs.declared.input_sets.InputSets.{InputSets}
use Rattle.std.specs.{Option.option_map_or, Prelude.{Bool, List, Option, false, is_some, not, slice_get, ℕ, ◌&&◌, ◌<◌, ◌≡◌}}

-- whether an input has a token and doesn't want an output; else it isn't ready for a turn
abbrev pub may_turn : {A : Type 0} → Input A → Bool
may_turn p = is_some (slice_get p.buffer.items 0) && not (is_want p.phase)

-- the same of input l of all; past the last link none may
abbrev pub may_turn_at : {A : Type 0} → List (Input A) → ℕ → Bool
may_turn_at ps l = option_map_or may_turn (slice_get ps l) false

-- the sets have link l exactly where its input is ready, if there is one
pub record IsKept {A : Type 0} (sets : InputSets) (l : ℕ) (found : Option (Input A)) : Type 0 where
  pub grants : has_bit sets.granting l ≡ option_map_or (λ p. is_some (input_grant p)) found false
  pub turns : has_bit sets.turning l ≡ option_map_or may_turn found false
  pub wants : has_bit sets.wanting l ≡ option_map_or (λ p. is_want p.phase) found false

-- they have each link so
abbrev pub AreKept : {A : Type 0} → InputSets → List (Input A) → Type 0
AreKept sets ps = (l : ℕ) → l < LINKS → IsKept sets l (slice_get ps l)

-- sets that say the same of link l
pub record AgreeOn (sets others : InputSets) (l : ℕ) : Type 0 where
  pub grants : has_bit sets.granting l ≡ has_bit others.granting l
  pub turns : has_bit sets.turning l ≡ has_bit others.turning l
  pub wants : has_bit sets.wanting l ≡ has_bit others.wanting l

-- the set of the outputs that can send a token
abbrev pub AreSending : {A : Type 0} → ℕ → List (Outgoing A) → Type 0
AreSending sending qs = (l : ℕ) → l < LINKS → has_bit sending l ≡ option_map_or (λ q. is_some (outgoing_emit q)) (slice_get qs l) false
