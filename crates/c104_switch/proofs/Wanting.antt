-- Claims that aren't ready: of an input that can't make its own, outside of a group, and in a switch that isn't
-- started.
use Rattle.c104_link.specs.{Buffers.{Outgoing, outgoing_emit}, Steps.{require, step_at, yield_step_at, ◌>>=◌, ◌>>◌}}
use Rattle.{c104_regs.specs.declared.settings.Settings.Settings, c104_switch.specs.Claims.{IsNextLink, input_claim, inputs_claim}}
use Rattle.c104_switch.specs.{Claims.switch_claim, Readiness.{may_turn, may_turn_at}, Switch.{Input, Switch, input_grant}}
use Rattle.c104_switch.specs.{Switch.{switch_credit_out, switch_leave, with_inputs, with_sides}, Turns.{input_turn, inputs_turn}}
use Rattle.{c104_switch.specs.Turns.switch_input, c104_token.specs.Kinds.Kind, std.proofs.Common.{Bool, List, None, Option, Some, ap}}
use Rattle.std.proofs.{Common.{arith, false, is_some, nat_le, refl, slice_get, true, ℕ, ◌&&◌, ◌<◌, ◌≡◌}, lemmas.Bool.Decides.nat_tests}

module _ {A : Type 0} (settings : List Settings) (ps : List (Input A)) (qs : List (Outgoing A)) (i o : ℕ) where
  -- the input at a place claims no output, where its own claim isn't ready
  pub unclaimed_at : (p : Input A) → slice_get ps i ≡ Some p → input_claim settings p qs o p.phase ≡ None → inputs_claim settings ps qs i o ≡ None
  unclaimed_at p is none = search arith

-- what is outside of a run of links
pub before_first : (first last o : ℕ) → o < first → (nat_le first o && nat_le o last) ≡ false
before_first first last o below = let no : nat_le first o ≡ false = grind (arith, nat_tests) in rw no refl

pub after_last : (first last o : ℕ) → last < o → (nat_le first o && nat_le o last) ≡ false
after_last first last o above = search (arith, nat_tests)

module _ {A : Type 0} (s : Switch A) (i o : ℕ) where
  abbrev by_start : Bool → Option (Switch A)
  by_start started = require started >> (inputs_claim s.settings s.inputs s.outputs i o >>= (λ r. Some (with_sides s r)))

  -- a switch that isn't started claims nothing, and one that is claims what its inputs can
  pub claim_unstarted : s.started ≡ false → is_some (switch_claim s i o) ≡ false
  claim_unstarted is = ap (λ b. is_some (by_start b)) is

  pub claim_started : s.started ≡ true → is_some (switch_claim s i o) ≡ is_some (inputs_claim s.settings s.inputs s.outputs i o)
  claim_started is = search arith

-- the next link by one test is the next by another that says the same
pub next_same : (f h : ℕ → Bool) → ((l : ℕ) → f l ≡ h l) → (from : ℕ) (found : Option ℕ) → IsNextLink f from found → IsNextLink h from found
next_same f h same from found next = search arith

-- and so it is by one that says the same of the links
pub next_below : (f h : ℕ → Bool) → ((l : ℕ) → l < 32 → f l ≡ h l) → (from : ℕ) (found : Option ℕ) → IsNextLink f from found → IsNextLink h from found
next_below f h same from found next = search arith

pub twice : (b : Bool) → (b && b) ≡ b
twice b = search arith

-- of two that aren't both so the second is, so the first isn't
pub first_isnt : (a b : Bool) → (a && b) ≡ false → b ≡ true → a ≡ false
first_isnt a b none is = search arith

module _ {A : Type 0} (s : Switch A) (l : ℕ) where
  abbrev grants_by : Bool → Option (Switch A)
  grants_by started = require started >> (step_at s.inputs l input_grant >>= (λ ps. Some (with_inputs s ps)))

  -- a switch that isn't started grants nothing, and one that is grants what its inputs can
  pub grant_unstarted : s.started ≡ false → is_some (switch_credit_out s l) ≡ false
  grant_unstarted is = ap (λ b. is_some (grants_by b)) is

  pub grant_started : s.started ≡ true → is_some (switch_credit_out s l) ≡ is_some (step_at s.inputs l input_grant)
  grant_started is = search arith

  -- a token leaves a switch where it leaves an output
  pub leaves_there : is_some (yield_step_at s.outputs l outgoing_emit) ≡ is_some (switch_leave s l)
  leaves_there = search arith

module _ {A : Type 0} (kind : Kind A) where
  -- an input without a token takes no turn, and none that wants an output
  still : (t : Settings) (word : ℕ) (p : Input A) (qs : List (Outgoing A)) → may_turn p ≡ false → input_turn kind t word p qs ≡ None
  still t word p qs none = search arith

  still_at : (t : Settings) (word : ℕ) (ps : List (Input A)) (qs : List (Outgoing A)) (l : ℕ) → may_turn_at ps l ≡ false → inputs_turn kind t word ps qs l ≡ None
  still_at t word ps qs l none = search (arith, still)

  -- nor does it in a switch
  pub unturned : (s : Switch A) (l word : ℕ) → may_turn_at s.inputs l ≡ false → switch_input kind s l word ≡ None
  unturned s l word none = search (arith, still_at)
