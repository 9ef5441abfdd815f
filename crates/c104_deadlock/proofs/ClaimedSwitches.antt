-- What a claim leaves: its input streams, and no claim can be made that couldn't be before.
use Rattle.c104_link.{proofs.MadeSteps.{at_place_made, given, required, with_place_made}, specs.{Buffers.Outgoing, Steps.require}}
use Rattle.{c104_link.specs.Steps.{step_at, ◌>>=◌, ◌>>◌}, c104_node.proofs.WireEnds.get_set_same}
use Rattle.{c104_regs.specs.declared.settings.Settings.Settings, c104_run.proofs.LinkOrders.other_turns}
use Rattle.c104_switch.specs.{Claims.{input_claim, inputs_claim, put_header, streaming_input, switch_claim}, Group.is_in_group}
use Rattle.c104_switch.specs.{Phases.is_stream, Switch.{Input, Switch, is_owned, with_sides}, declared.phase.Phase.Phase}
use Rattle.{c104_switch.specs.declared.phase.Phase.TheVariants.Want, std.proofs.Common.{Bool, List, None, Option, Some, [], ap, arith}}
use Rattle.std.proofs.Common.{false, inl, inr, not, refl, slice_get, slice_set, subst, suc, sym, true, zero, ℕ, ◌∙◌, ◌∷◌, ◌≡◌, ◌≢◌, ◌⊎◌}
use Rattle.std.proofs.lemmas.Bool.{Decides.nat_tests, cases_eq}

module _ {A : Type 0} where
  -- an input that streams to an output owns it
  owned_now : (ps : List (Input A)) (j o : ℕ) (p q : Input A) → slice_get ps j ≡ Some p → is_stream o q.phase ≡ true →
      is_owned (slice_set ps j q) o ≡ true
  owned_now [] j o p q here streams = absurd (cc here)
  owned_now (r ∷ ps) zero o p q here streams = rw streams refl
  owned_now (r ∷ ps) (suc j) o p q here streams = let rest = owned_now ps j o p q here streams in search (arith, rest)

  -- an output that is owned by an input is owned still when another changes
  owned_still : (ps : List (Input A)) (j o : ℕ) (p q : Input A) → slice_get ps j ≡ Some p → is_stream o p.phase ≡ false →
      is_owned (slice_set ps j q) o ≡ false → is_owned ps o ≡ false
  owned_still [] j o p q here apart free = refl
  owned_still (r ∷ ps) zero o p q here apart free = search arith
  owned_still (r ∷ ps) (suc j) o p q here apart free = let rest = owned_still ps j o p q here apart in search arith

module _ {A : Type 0} (s after : Switch A) (j o : ℕ) where
  -- what is known of a claim that was made
  pub record IsClaimed : Type 0 where
    pub input : Input A
    pub outputs : List (Outgoing A)
    pub here : slice_get s.inputs j ≡ Some input
    pub wants : (u : ℕ) → is_stream u input.phase ≡ false
    pub others : (u : ℕ) → u ≢ o → slice_get outputs u ≡ slice_get s.outputs u
    pub leaves : with_sides s (slice_set s.inputs j (streaming_input input o), outputs) ≡ after

  claimed : switch_claim s j o ≡ Some after → IsClaimed
  claimed made =
      required s.started _ after made (λ started more.
      given (inputs_claim s.settings s.inputs s.outputs j o) _ after more (λ r sides last.
      required (not (is_owned s.inputs o)) _ r sides (λ free joint.
      with_place_made s.inputs j (λ p. input_claim s.settings p s.outputs o p.phase) r joint (λ p y here step set.
      by_phase p y p.phase here step (λ wants others same. record {
        input = p;
        outputs = y.1;
        here = here;
        wants = wants;
        others = others;
        leaves =
            (let whole : with_sides s r ≡ after = cc in
            ap (λ (z : Input A). with_sides s (slice_set s.inputs j z, y.1)) (sym same) ∙ ap (with_sides s) set ∙ whole);
      })))))
    where
      by_phase : (p : Input A) (y : Input A × List (Outgoing A)) (phase : Phase (List A)) → slice_get s.inputs j ≡ Some p →
          input_claim s.settings p s.outputs o phase ≡ Some y →
          (((u : ℕ) → is_stream u phase ≡ false) → ((u : ℕ) → u ≢ o → slice_get y.1 u ≡ slice_get s.outputs u) → y.0 ≡ streaming_input p o →
          IsClaimed) → IsClaimed
      by_phase p y (Want b g) here step then =
          required (is_in_group s.settings g o) _ y step
          (λ joined more.
          given (slice_get s.settings o) _ y more (λ t set more. given (step_at s.outputs o (put_header t b)) _ y more (λ rs put last.
          at_place_made s.outputs o (put_header t b) rs put (λ q q' at made sets.
          (let parts : ◌≡◌ {A = Input A × List (Outgoing A)} (streaming_input p o, rs) y = cc in
          let outputs : rs ≡ y.1 = ap (λ (z : Input A × List (Outgoing A)). z.1) parts in
          then (λ u. refl)
          (λ u other. ap (λ zs. slice_get zs u) (sym outputs) ∙ ap (λ zs. slice_get zs u) (sym sets) ∙ other_turns s.outputs o q' u other)
          (ap (λ (z : Input A × List (Outgoing A)). z.0) (sym parts)))))))
      by_phase p y phase here step then = absurd (cc step)

module _ {A : Type 0} (settings : List Settings) (p : Input A) (u : ℕ) where
  abbrev put_to : List (Outgoing A) → List A → Settings → Option (Input A × List (Outgoing A))
  put_to qs b t = ◌>>=◌ {Y = Input A × List (Outgoing A)} (step_at qs u (put_header t b)) (λ zs. Some (streaming_input p u, zs))

  -- an input that can't claim an output can't among other outputs, where this one is the same
  module _ (qs rs : List (Outgoing A)) (same : slice_get rs u ≡ slice_get qs u) where
    by_output : (b : List A) (t : Settings) (o : Option (Outgoing A)) → slice_get qs u ≡ o → slice_get rs u ≡ o → put_to qs b t ≡ None →
        put_to rs b t ≡ None
    by_output b t o here there none = search arith

    by_settings : (b : List A) (found : Option Settings) → (found >>= put_to qs b) ≡ None → (found >>= put_to rs b) ≡ None
    by_settings b None none = refl
    by_settings b (Some t) none = by_output b t (slice_get qs u) refl same none

    by_group : (b : List A) (joined : Bool) → (require joined >> (slice_get settings u >>= put_to qs b)) ≡ None →
        (require joined >> (slice_get settings u >>= put_to rs b)) ≡ None
    by_group b true none = by_settings b (slice_get settings u) none
    by_group b false none = refl

    claims_alike : (phase : Phase (List A)) → input_claim settings p qs u phase ≡ None → input_claim settings p rs u phase ≡ None
    claims_alike (Want b g) none = by_group b (is_in_group settings g u) none
    claims_alike phase none = refl

-- a claim that can't be made, by what its input, if there is one, claims of what isn't owned
module _ {A : Type 0} (s : Switch A) (i u : ℕ) where
  abbrev claims : Input A → Option (Input A × List (Outgoing A))
  claims p = input_claim s.settings p s.outputs u p.phase

  unmade : (p : Input A) → s.started ≡ true → is_owned s.inputs u ≡ false → slice_get s.inputs i ≡ Some p →
      (made : Option (Input A × List (Outgoing A))) → claims p ≡ made → switch_claim s i u ≡ None → made ≡ None
  unmade p start free here made is none = search arith

  unready : (p : Input A) → slice_get s.inputs i ≡ Some p → claims p ≡ None → (started owned : Bool) → s.started ≡ started →
      is_owned s.inputs u ≡ owned → switch_claim s i u ≡ None
  unready p here none started owned start is = search arith

  absent : slice_get s.inputs i ≡ None → (started owned : Bool) → s.started ≡ started → is_owned s.inputs u ≡ owned →
      switch_claim s i u ≡ None
  absent here started owned start is = search arith

  taken : is_owned s.inputs u ≡ true → (started : Bool) → s.started ≡ started → switch_claim s i u ≡ None
  taken is started start = search arith

  stopped : s.started ≡ false → switch_claim s i u ≡ None
  stopped start = search arith

-- after a claim that was made
module _ {A : Type 0} (s after : Switch A) (j o : ℕ) (made : switch_claim s j o ≡ Some after) where
  abbrev known : IsClaimed s after j o
  known = claimed s after j o made

  abbrev new : Input A
  new = streaming_input known.input o

  abbrev left : Switch A
  left = with_sides s (slice_set s.inputs j new, known.outputs)

  -- its input claims nothing more
  pub streams_on : (u : ℕ) → switch_claim after j u ≡ None
  streams_on u =
      subst (λ z. switch_claim z j u ≡ None) known.leaves
      (unready left j u new (get_set_same s.inputs j known.input new known.here) refl s.started (is_owned (slice_set s.inputs j new) u) refl
      refl)

  -- and no other claim can be made that couldn't be before
  pub claims_fewer : (i u : ℕ) → switch_claim s i u ≡ None → switch_claim after i u ≡ None
  claims_fewer i u none = subst (λ z. switch_claim z i u ≡ None) known.leaves (by_input (cases_eq i j))
    where
      by_found : (found : Option (Input A)) → i ≢ j → u ≢ o → s.started ≡ true → is_owned (slice_set s.inputs j new) u ≡ false →
          slice_get s.inputs i ≡ found → switch_claim left i u ≡ None
      by_found None apart other start free here = absent left i u (other_turns s.inputs j new i apart ∙ here) true false start free
      by_found (Some p) apart other start free here =
          let was : is_owned s.inputs u ≡ false = owned_still s.inputs j u known.input new known.here (known.wants u) free in
          let before : input_claim s.settings p s.outputs u p.phase ≡ None =
          unmade s i u p start was here (input_claim s.settings p s.outputs u p.phase) refl none in
          unready left i u p (other_turns s.inputs j new i apart ∙ here)
          (claims_alike s.settings p u s.outputs known.outputs (known.others u other) p.phase before) true false start free

      by_owned : (owned : Bool) → i ≢ j → s.started ≡ true → is_owned (slice_set s.inputs j new) u ≡ owned → switch_claim left i u ≡ None
      by_owned true apart start is = taken left i u is true start
      by_owned false apart start is =
          let other : u ≢ o = λ same.
          (let streams : is_stream u new.phase ≡ true = grind (arith, nat_tests) in
          let owned = owned_now s.inputs j u known.input new known.here streams in
          cc (owned, is)) in
          by_found (slice_get s.inputs i) apart other start is refl

      by_started : (started : Bool) → i ≢ j → s.started ≡ started → switch_claim left i u ≡ None
      by_started false apart start = stopped left i u start
      by_started true apart start = by_owned (is_owned (slice_set s.inputs j new) u) apart start refl

      by_input : (i ≡ j) ⊎ (i ≢ j) → switch_claim left i u ≡ None
      by_input (inl same) =
          subst (λ k. switch_claim left k u ≡ None) (sym same)
          (unready left j u new (get_set_same s.inputs j known.input new known.here) refl s.started (is_owned (slice_set s.inputs j new) u)
          refl refl)
      by_input (inr apart) = by_started s.started apart refl
