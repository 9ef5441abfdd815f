-- A claim has no reason exactly where it can be made.
use Rattle.{c104_link.specs.{Buffers.Outgoing, Steps.{require, ◌>>=◌, ◌>>◌}}, c104_regs.specs.declared.settings.Settings.Settings}
use Rattle.c104_switch.{proofs.Owners.owner_found, specs.{Claims.{input_claim, switch_claim}, Group.is_in_group, Reasons.claim_why}}
use Rattle.{c104_switch.specs.{Reasons.wanted_why, Switch.{Input, Phase, Switch, Want, is_owned}, Views.owner_from}, std.proofs.Common.Bool}
use Rattle.std.proofs.Common.{List, None, Option, Some, ap, arith, false, is_none, is_some, length, nat_le, not, refl, slice_get, sym, true}
use Rattle.std.proofs.Common.{ℕ, ◌+◌, ◌∙◌, ◌≡◌}

module _ {A : Type 0} where
  -- an input claims what no input owns, in its phase
  module _ (settings : List Settings) (p : Input A) (qs : List (Outgoing A)) (o : ℕ) (t : Settings) (q : Outgoing A) (set : slice_get settings o ≡ Some t) (at : slice_get qs o ≡ Some q) where
    abbrev tried : Option ℕ → Phase (List A) → Option (Input A × List (Outgoing A))
    tried owner phase = require (not (is_some owner)) >> input_claim settings p qs o phase

    abbrev IsTold : Option ℕ → Phase (List A) → Type 0
    IsTold owner phase = is_none (wanted_why settings o owner t q phase) ≡ is_some (tried owner phase)

    by_room : (b : List A) (g : ℕ) → is_in_group settings g o ≡ true → (deletes room : Bool) → t.delete_header ≡ deletes → nat_le (length q.items + length b) 8 ≡ room → IsTold None (Want b g)
    by_room b g joined deletes room keeps is = search arith

    by_group : (b : List A) (g : ℕ) (owner : Option ℕ) (joined : Bool) → is_in_group settings g o ≡ joined → IsTold owner (Want b g)
    by_group b g owner joined is = search (arith, by_room)

    wanted_ready : (owner : Option ℕ) (phase : Phase (List A)) → IsTold owner phase
    wanted_ready owner phase = search (arith, by_group)

  -- no input claims an output that isn't there
  module _ (settings : List Settings) (p : Input A) (qs : List (Outgoing A)) (o : ℕ) where
    unset : slice_get settings o ≡ None → (phase : Phase (List A)) → input_claim settings p qs o phase ≡ None
    unset none phase = search arith

    absent : (t : Settings) → slice_get settings o ≡ Some t → slice_get qs o ≡ None → (phase : Phase (List A)) → input_claim settings p qs o phase ≡ None
    absent t set none phase = search arith

module _ {A : Type 0} (s : Switch A) (i o : ℕ) where
  abbrev claims : Input A → Option (Input A × List (Outgoing A))
  claims p = input_claim s.settings p s.outputs o p.phase

  abbrev owner : Option ℕ
  owner = owner_from 0 s.inputs o

  -- a claim is made where the switch is started and the input, if there is one, claims what isn't owned
  made_none : (started owned : Bool) (found : Option (Input A)) → s.started ≡ started → is_owned s.inputs o ≡ owned → slice_get s.inputs i ≡ found → found >>= claims ≡ None → is_some (switch_claim s i o) ≡ false
  made_none started owned found start own is none = search arith

  made_not : (found : Option (Input A)) → slice_get s.inputs i ≡ found → found >>= claims ≡ None → is_some (switch_claim s i o) ≡ false
  made_not found is none = made_none s.started (is_owned s.inputs o) found refl refl is none

  made_some : (p : Input A) → s.started ≡ true → slice_get s.inputs i ≡ Some p → is_some (require (not (is_owned s.inputs o)) >> claims p) ≡ is_some (switch_claim s i o)
  made_some p start is = search arith

  pub claim_ready : is_none (claim_why s i o) ≡ is_some (switch_claim s i o)
  claim_ready = by_input (slice_get s.inputs i) refl
    where
      by_started : (p : Input A) (t : Settings) (q : Outgoing A) → slice_get s.inputs i ≡ Some p → slice_get s.settings o ≡ Some t → slice_get s.outputs o ≡ Some q → (started : Bool) → s.started ≡ started → is_none (claim_why s i o) ≡ is_some (switch_claim s i o)
      by_started p t q is set at false start = rw (is, set, at, start) refl
      by_started p t q is set at true start =
          let told : is_none (wanted_why s.settings o owner t q p.phase) ≡ is_some (require (not (is_some owner)) >> claims p) = wanted_ready s.settings p s.outputs o t q set at owner p.phase in
          let tried : is_some (require (not (is_some owner)) >> claims p) ≡ is_some (switch_claim s i o) = ap (λ owned. is_some (require (not owned) >> claims p)) (owner_found 0 s.inputs o) ∙ made_some p start is in
          let why : is_none (claim_why s i o) ≡ is_none (wanted_why s.settings o owner t q p.phase) = rw (is, set, at, start) refl in
          why ∙ told ∙ tried

      by_output : (p : Input A) (t : Settings) → slice_get s.inputs i ≡ Some p → slice_get s.settings o ≡ Some t → (found : Option (Outgoing A)) → slice_get s.outputs o ≡ found → is_none (claim_why s i o) ≡ is_some (switch_claim s i o)
      by_output p t is set (Some q) at = by_started p t q is set at s.started refl
      by_output p t is set None at = let why : is_none (claim_why s i o) ≡ false = rw (is, set, at) refl in why ∙ sym (made_not (Some p) is (absent s.settings p s.outputs o t set at p.phase))

      by_settings : (p : Input A) → slice_get s.inputs i ≡ Some p → (found : Option Settings) → slice_get s.settings o ≡ found → is_none (claim_why s i o) ≡ is_some (switch_claim s i o)
      by_settings p is found set = search (arith, by_output, made_not, unset)

      by_input : (found : Option (Input A)) → slice_get s.inputs i ≡ found → is_none (claim_why s i o) ≡ is_some (switch_claim s i o)
      by_input found is = search (arith, by_settings, made_not)
