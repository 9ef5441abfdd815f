-- Which outputs can be claimed at all, by the crossbar's marks.
use Rattle.{c104_crossbar.specs.Marks.{ArePartition, is_free}, c104_link.{proofs.Lifts.lift_beside, specs.Buffers.Outgoing}}
use Rattle.{c104_link.specs.Steps.{bool_outcome, joint_step_at}, c104_regs.specs.declared.settings.Settings.Settings}
use Rattle.c104_switch.{proofs.HeldClaims.{free_unowned, taken_owned}, specs.{Claims.{input_claim, inputs_claim}, Holding.held_claims}}
use Rattle.{c104_switch.specs.Switch.{Input, Phase}, std.proofs.Common.{Bool, List, None, Option, Some, ap, arith, false, get_or, is_some}}
use Rattle.std.proofs.{Common.{length, refl, slice_get, slice_set, sym, true, ℕ, ◌<◌, ◌∙◌, ◌≡◌}, lemmas.Bool.cases_lt}
use Rattle.std.proofs.lemmas.Option.{slice_get_past}
use Rattle.c104_crossbar.specs.Marks as crossbar

module _ {A : Type 0} (settings : List Settings) (ps : List (Input A)) (qs : List (Outgoing A)) (i o : ℕ) where
  -- no input claims an output past the last
  claimed_past : slice_get settings o ≡ None → (p : Input A) (phase : Phase (List A)) → input_claim settings p qs o phase ≡ None
  claimed_past none p phase = search arith

  past : slice_get settings o ≡ None → inputs_claim settings ps qs i o ≡ None
  past none = search (arith, claimed_past)

  -- an output that the crossbar doesn't count as free can't be claimed
  pub unclaimable : (marks : List Bool) → ArePartition (held_claims ps) marks → is_free marks o ≡ false → length settings ≡ 32 → inputs_claim settings ps qs i o ≡ None
  unclaimable marks partition taken links = search (arith, cases_lt, taken_owned, past, slice_get_past)

  -- and of one that it does, the input that wants it decides
  pub claimable : (marks : List Bool) → ArePartition (held_claims ps) marks → is_free marks o ≡ true → inputs_claim settings ps qs i o ≡ joint_step_at ps i (λ p. input_claim settings p qs o p.phase)
  claimable marks partition free = rw (free_unowned ps marks o partition free) refl

  -- so it can be claimed where that input can, of the same inputs under another name
  pub claimable_there : (list : List (Input A)) (marks : List Bool) → list ≡ ps → ArePartition (held_claims ps) marks → is_free marks o ≡ true → is_some (joint_step_at list i (λ p. input_claim settings p qs o p.phase)) ≡ is_some (inputs_claim settings ps qs i o)
  claimable_there list marks same partition free = ap (λ (xs : List (Input A)). is_some (joint_step_at xs i (λ p. input_claim settings p qs o p.phase))) same ∙ sym (ap is_some (claimable marks partition free))

  -- by what the crossbar says of a claim
  pub unclaimed : (marks left : List Bool) → ArePartition (held_claims ps) marks → length settings ≡ 32 → ◌≡◌ {A = Option ℕ × List Bool} (None, left) (crossbar.crossbar_claim marks o) → inputs_claim settings ps qs i o ≡ None
  unclaimed marks left partition links is = search (arith, unclaimable)

  pub marked : (marks left : List Bool) (c : ℕ) → ArePartition (held_claims ps) marks → ◌≡◌ {A = Option ℕ × List Bool} (Some c, left) (crossbar.crossbar_claim marks o) → (c ≡ o) × (inputs_claim settings ps qs i o ≡ joint_step_at ps i (λ p. input_claim settings p qs o p.phase))
  marked marks left c partition is = search (arith, claimable)

-- an output that was claimed goes to the input at a place, or comes back
pub lift_claimed : {A : Type 0} (settings : List Settings) (ps : List (Input A)) (qs left_qs : List (Outgoing A)) (i o c : ℕ) (p new : Input A) (b : Bool) (marks left : List Bool) → i < length ps → p ≡ get_or ps i p → ArePartition (held_claims ps) marks → ◌≡◌ {A = Option ℕ × List Bool} (Some c, left) (crossbar.crossbar_claim marks o)
    → ◌≡◌ {A = Bool × (Input A × List (Outgoing A))} (b, (new, left_qs)) (bool_outcome {S = Input A × List (Outgoing A)} (input_claim settings p qs c p.phase) (p, qs))
    → ◌≡◌ {A = Bool × (List (Input A) × List (Outgoing A))} (b, (slice_set ps i new, left_qs)) (bool_outcome {S = List (Input A) × List (Outgoing A)} (inputs_claim settings ps qs i o) (ps, qs))
lift_claimed {A} settings ps qs left_qs i o c p new b marks left inside is partition claim step =
    let made : (c ≡ o) × (inputs_claim settings ps qs i o ≡ joint_step_at ps i (λ p. input_claim settings p qs o p.phase)) = marked settings ps qs i o marks left c partition claim in
    rw made.1 (lift_beside ps i p new inside is b qs left_qs (λ p. input_claim settings p qs o p.phase) (rw made.0 at step))
