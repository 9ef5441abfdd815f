-- A poke of a switch that was placed and has told nothing yet: it is refused exactly where the address and
-- the value say so, since no link is busy.
use Rattle.c104_regs.{proofs.{KeptLemmas.{kept_value_is, placed_below}, RegisterLemmas.get_or-same}, specs.Addresses.Register}
use Rattle.c104_regs.specs.{Faults.RegFault, KeptValues.kept_value, Ranges.IsInRange, Registers.{RegisterBank, bank_peek, bank_poke}}
use Rattle.c104_regs.specs.{Registers.{placed_bank, settable, status_at, target, waits}, Settings.{Settings, reset_settings}, Values.Status}
use Rattle.{c104_regs.specs.Values.reset_status, std.proofs.Common.{Bool, Err, List, Ok, Option, Result, Some, ap, arith, false, get_or}}
use Rattle.std.proofs.Common.{refl, ℕ, ◌&&◌, ◌<◌, ◌∙◌, ◌≡◌}

-- what is answered of a target
module _ (a v : ℕ) where
  target_refused : (e : RegFault) → settable a v ≡ Err e → target a v ≡ Err e
  target_refused e is = search arith

  pub poke_refused : (b : RegisterBank) (e : RegFault) → settable a v ≡ Err e → bank_poke b a v ≡ (Err e, b)
  poke_refused b e is = rw (target_refused e is) refl

  -- no link of a placed switch is busy
  pub idle : (settings : List Settings) (l : ℕ) (r : Register) → (waits r && (status_at (placed_bank settings) l).busy) ≡ false
  idle settings l r = ap (λ (s : Status). waits r && s.busy) (get_or-same 32 l reset_status) ∙ never (waits r)
    where
      never : (b : Bool) → (b && false) ≡ false
      never b = search arith

  pub poke_taken : (settings : List Settings) → settable a v ≡ Ok tt → (bank_poke (placed_bank settings) a v).0 ≡ Ok tt
  poke_taken settings is = by_target (target a v) refl is
    where
      by_target : (t : Result (ℕ × Register) RegFault) → target a v ≡ t → settable a v ≡ Ok tt → (bank_poke (placed_bank settings) a v).0 ≡ Ok tt
      by_target (Err e) at is = let no : ◌≡◌ {A = Result (Unit {0}) RegFault} (Err e) (Ok tt) = rw at at is in cc
      by_target (Ok (l, r)) at is = rw (at, idle settings l r) refl

  -- a poke changes settings alone
  pub poke_placed : (settings : List Settings) → (bank_poke (placed_bank settings) a v).1 ≡ placed_bank (bank_poke (placed_bank settings) a v).1.settings
  poke_placed settings = search (arith, idle)

  -- what may be set is below the end of the addresses
  pub settable_below : settable a v ≡ Ok tt → a < 8448
  settable_below is = search (arith, placed_below)

-- two options that give the same
option_same : (o p : Option ℕ) → ((v : ℕ) → o ≡ Some v → p ≡ Some v) → ((v : ℕ) → p ≡ Some v → o ≡ Some v) → o ≡ p
option_same o p there back = search (arith, back)

-- what is kept of an address hangs on what it reads
pub kept_value_same : (s t : List Settings) → ((l : ℕ) → IsInRange (get_or s l reset_settings)) → ((l : ℕ) → IsInRange (get_or t l reset_settings)) → (a : ℕ) → bank_peek (placed_bank s) a ≡ bank_peek (placed_bank t) a → kept_value s a ≡ kept_value t a
kept_value_same s t in_s in_t a reads = search (arith, option_same, kept_value_is)
