-- Switches at their starts: what every switch keeps, and what every start does.
use Rattle.c104_link.specs.Buffers.{IsValidCap, IsWithinCap, IsWithinLimits, Outgoing}
use Rattle.{c104_regs.specs.declared.settings.Settings.Settings, c104_switch.specs.{Holding.held_claims, Soundness.IsSound}}
use Rattle.c104_switch.specs.Starts.{IsLinkStart, IsSwitchStart, SwitchStart, link_start, link_starts, new_link, new_start, start_input}
use Rattle.c104_switch.specs.{Starts.{start_output, start_switch, switch_start}, Switch.{Input, Switch}}
use Rattle.{c104_switch.specs.declared.{link_start.LinkStart.LinkStart, phase.Phase.TheVariants.Fresh}, std.proofs.Common.{All, Bool, List}}
use Rattle.std.proofs.Common.{Some, [], ap, arith, length, map, refl, slice_get, suc, sym, take, zero, ℕ, ◌++◌, ◌+◌, ◌∙◌, ◌∷◌, ◌≡◌}
use Rattle.std.proofs.lemmas.List.{Elements.{All-cons, All-head, All-map, All-nil, All-replicate, All-tail}, length-map, length-replicate}

-- a new start
pub new_kept : (cap : ℕ) (settings : List Settings) (started : Bool) → IsValidCap cap → length settings ≡ 32 → IsSwitchStart (new_start cap settings started)
new_kept cap settings started valid links = record {
  settings = links;
  count = length-replicate 32 (new_link cap);
  links = All-replicate IsLinkStart 32 (new_link cap) (record { cap = valid; granted = omega arith; credit = omega arith });
}

-- no input holds a claim at a start
pub none_held : (A : Type 0) (links : List LinkStart) → held_claims {A = A} (map start_input links) ≡ []
none_held A [] = refl
none_held A (l ∷ links) = none_held A links

module _ {A : Type 0} where
  fresh_at : (links : List LinkStart) (i : ℕ) (p : Input A) → slice_get (map start_input links) i ≡ Some p → p.phase ≡ Fresh
  fresh_at [] i p here = cc
  fresh_at (l ∷ links) zero p here = let same : start_input l ≡ p = cc in ap (λ (p : Input A). p.phase) (sym same)
  fresh_at (l ∷ links) (suc i) p here = fresh_at links i p here

  -- a switch at a start
  pub sound_start : (s : SwitchStart) → IsSwitchStart s → IsSound (start_switch {A = A} s)
  sound_start s kept = record {
    settings = kept.settings;
    inputs = length-map s.links start_input ∙ kept.count;
    outputs = length-map s.links start_output ∙ kept.count;
    within_cap = All-map (λ (p : Input A). IsWithinCap p.buffer) start_input s.links (λ i d inside. record { room = omega (arith, (kept.links i d inside).granted); valid = (kept.links i d inside).cap });
    within_limits = All-map IsWithinLimits start_output s.links (λ i d inside. record { room = omega arith; credit = (kept.links i d inside).credit });
    exclusive = λ i j o p q here there streams others. let fresh = fresh_at s.links i p here in cc;
  }

  -- the same of a switch that was made of its parts
  pub sound_from : (s : SwitchStart) → IsSwitchStart s → (started : Bool) (settings : List Settings) (ps : List (Input A)) (qs : List (Outgoing A)) → settings ≡ s.settings → ps ≡ map start_input s.links → qs ≡ map start_output s.links → IsSound (record { started = started; settings = settings; inputs = ps; outputs = qs })
  sound_from s kept started settings ps qs is_settings is_inputs is_outputs = search (arith, sound_start)

  -- where the links of a switch stand
  pub length_starts : (ps : List (Input A)) (qs : List (Outgoing A)) → length ps ≡ length qs → length (link_starts ps qs) ≡ length ps
  length_starts [] qs same = refl
  length_starts (p ∷ ps) [] same = absurd (let no : ⊥ = omega (arith, same) in no)
  length_starts (p ∷ ps) (q ∷ qs) same = ap suc (length_starts ps qs (omega (arith, same)))

  starts_kept : (ps : List (Input A)) (qs : List (Outgoing A)) → All (λ (p : Input A). IsWithinCap p.buffer) ps → All IsWithinLimits qs → All IsLinkStart (link_starts ps qs)
  starts_kept [] qs caps limits = All-nil IsLinkStart
  starts_kept (p ∷ ps) [] caps limits = All-nil IsLinkStart
  starts_kept (p ∷ ps) (q ∷ qs) caps limits =
      let cap : IsWithinCap p.buffer = All-head (λ (p : Input A). IsWithinCap p.buffer) p ps caps in
      let limit : IsWithinLimits q = All-head IsWithinLimits q qs limits in
      All-cons IsLinkStart (link_start p q) (link_starts ps qs) (record { cap = cap.valid; granted = omega (arith, cap.room); credit = limit.credit })
      (starts_kept ps qs (All-tail (λ (p : Input A). IsWithinCap p.buffer) p ps caps) (All-tail IsWithinLimits q qs limits))

  pub start_kept : (s : Switch A) → IsSound s → IsSwitchStart (switch_start s)
  start_kept s sound = search (arith, length_starts, starts_kept)

  -- `i` of them, and one more
  pub starts_next : (ps : List (Input A)) (qs : List (Outgoing A)) (i : ℕ) (p : Input A) (q : Outgoing A) → slice_get ps i ≡ Some p → slice_get qs i ≡ Some q → take (i + 1) (link_starts ps qs) ≡ take i (link_starts ps qs) ++ link_start p q ∷ []
  starts_next [] qs i p q input output = cc
  starts_next (x ∷ ps) [] i p q input output = cc
  starts_next (x ∷ ps) (y ∷ qs) zero p q input output = search arith
  starts_next (x ∷ ps) (y ∷ qs) (suc i) p q input output = search (arith, starts_next ps qs i p q input output)
