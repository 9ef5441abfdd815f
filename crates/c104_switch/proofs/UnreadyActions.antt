-- An action of a switch has no reason exactly where the switch is ready for it.
use Rattle.{c104_link.specs.Buffers.Outgoing, c104_regs.specs.declared.settings.Settings.Settings}
use Rattle.c104_switch.proofs.{UnreadyClaims.claim_ready, UnreadySteps.{accept_ready, credited_ready, emit_ready, grant_ready, turn_ready}}
use Rattle.c104_switch.specs.{Actions.{done_outcome, is_ready, switch_step, token_outcome}, Claims.switch_claim, Reasons.credit_in_why}
use Rattle.c104_switch.specs.{Reasons.{credit_out_why, enter_why, input_why, leave_why, switch_why, turn_why}, Switch.{Input, Switch}}
use Rattle.c104_switch.specs.{Switch.{switch_credit_in, switch_credit_out, switch_enter, switch_leave}, Turns.{input_turn, switch_input}}
use Rattle.{c104_switch.specs.declared.actions.ActionOf.ActionOf, c104_token.specs.Kinds.Kind, std.proofs.Common.{Bool, List, None, Option}}
use Rattle.std.proofs.Common.{Some, arith, false, is_none, is_some, refl, slice_get, true, ℕ, ◌∙◌, ◌≡◌}

module _ {A : Type 0} (kind : Kind A) (s : Switch A) where
  pub enter_ready : (l : ℕ) (x : A) → is_none (enter_why s l) ≡ is_some (switch_enter s l x)
  enter_ready l x = search (arith, accept_ready)

  pub leave_ready : (l : ℕ) → is_none (leave_why s l) ≡ is_some (switch_leave s l)
  leave_ready l = search (arith, emit_ready)

  pub credit_out_ready : (l : ℕ) → is_none (credit_out_why s l) ≡ is_some (switch_credit_out s l)
  credit_out_ready l = search (arith, grant_ready)

  pub credit_in_ready : (l : ℕ) → is_none (credit_in_why s l) ≡ is_some (switch_credit_in s l)
  credit_in_ready l = search (arith, credited_ready)

  pub input_ready : (i word : ℕ) → is_none (input_why s i) ≡ is_some (switch_input kind s i word)
  input_ready i word = by_found (slice_get s.settings i) (slice_get s.inputs i) s.started refl refl refl
    where
      by_made : (t : Settings) (p : Input A) → slice_get s.settings i ≡ Some t → slice_get s.inputs i ≡ Some p → s.started ≡ true → (made : Option (Input A × List (Outgoing A))) → input_turn kind t word p s.outputs ≡ made → is_some made ≡ is_some (switch_input kind s i word)
      by_made t p set is start made gives = search arith

      by_found : (settings : Option Settings) (found : Option (Input A)) (started : Bool) → slice_get s.settings i ≡ settings → slice_get s.inputs i ≡ found → s.started ≡ started → is_none (input_why s i) ≡ is_some (switch_input kind s i word)
      by_found None found true set is start = rw (set, start) refl
      by_found None found false set is start = rw (set, start) refl
      by_found (Some t) None true set is start = rw (set, is, start) refl
      by_found (Some t) None false set is start = rw (set, is, start) refl
      by_found (Some t) (Some p) false set is start = rw (set, is, start) refl
      by_found (Some t) (Some p) true set is start = let why : is_none (input_why s i) ≡ is_none (turn_why s.outputs p) = rw (set, is, start) refl in why ∙ turn_ready kind t word p s.outputs ∙ by_made t p set is start (input_turn kind t word p s.outputs) refl

  by_done : (made : Option (Switch A)) → is_some made ≡ is_ready (done_outcome made s).0
  by_done made = search arith

  by_token : (made : Option (A × Switch A)) → is_some made ≡ is_ready (token_outcome made s).0
  by_token made = search arith

  pub unready_told : (a : ActionOf A) → is_none (switch_why s a) ≡ is_ready (switch_step kind s a).0
  unready_told (ActionOf.Enter l x) = enter_ready l x ∙ by_done (switch_enter s l x)
  unready_told (ActionOf.Leave l) = leave_ready l ∙ by_token (switch_leave s l)
  unready_told (ActionOf.CreditOut l) = credit_out_ready l ∙ by_done (switch_credit_out s l)
  unready_told (ActionOf.CreditIn l) = credit_in_ready l ∙ by_done (switch_credit_in s l)
  unready_told (ActionOf.Input l word) = input_ready l word ∙ by_done (switch_input kind s l word)
  unready_told (ActionOf.Claim i o) = claim_ready s i o ∙ by_done (switch_claim s i o)
  unready_told (ActionOf.Control bytes) = refl
