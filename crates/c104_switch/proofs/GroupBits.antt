-- The group by the word that the registers give is the group by the settings.
use Rattle.{c104_crossbar.specs.Groups.{has_bit, is_joined_run}, c104_regs.proofs.ContinueLemmas.bit-continues_at}
use Rattle.c104_regs.specs.{Groups.continues_at, Values.bit_value, declared.settings.Settings.Settings}
use Rattle.{c104_switch.specs.Group.is_in_group, std.proofs.Common.{Bool, List, ap, arith, false, refl, suc, sym, ℕ, ◌+◌, ◌-◌, ◌<◌, ◌==◌}}
use Rattle.std.{proofs.{Common.{◌^◌, ◌∙◌, ◌≡◌, ◌≤◌}, lemmas.{Bool.lt-leb, Nat.Bits.bit_at_above}}, specs.Int.bit_at}
use Rattle.c104_crossbar.specs.Groups as groups

-- links that continue by one test as by another are joined by both
joined_same : (f h : ℕ → Bool) → ((l : ℕ) → f l ≡ h l) → (low n : ℕ) → is_joined_run f low n ≡ is_joined_run h low n
joined_same f h same low n = search arith

in_group_same : (f h : ℕ → Bool) → ((l : ℕ) → f l ≡ h l) → (g o : ℕ) → groups.group_contains f g o ≡ groups.group_contains h g o
in_group_same f h same g o = rw (joined_same f h same g (o - g), joined_same f h same o (g - o)) refl

-- a link that doesn't continue is in no group with one before it
in_group_stops : (f : ℕ → Bool) (g o : ℕ) → o < g → f g ≡ false → groups.group_contains f g o ≡ false
in_group_stops f g o below stops = rw (lt-leb g o below) (let more : g - o ≡ suc (g - 1 - o) = omega arith in rw more (let place : o + suc (g - 1 - o) ≡ g = omega arith in rw (place, stops) refl))

module _ (settings : List Settings) (word : ℕ) (bits : (l : ℕ) → bit_at word l ≡ bit_value (continues_at settings l) 1) where
  bit_is : (l : ℕ) → has_bit word l ≡ continues_at settings l
  bit_is = bit-continues_at settings word bits

  pub in_group_is : (g o : ℕ) → groups.group_contains (has_bit word) g o ≡ is_in_group settings g o
  in_group_is = in_group_same (has_bit word) (continues_at settings) bit_is

  -- past the last link there is none
  pub in_group_past : word < 2 ^ 32 → (g o : ℕ) → 32 ≤ g → o < 32 → is_in_group settings g o ≡ false
  in_group_past fits g o past below = in_group_stops (continues_at settings) g o (omega arith) (sym (bit_is g) ∙ ap (λ b. b == 1) (bit_at_above word 32 g fits past))
