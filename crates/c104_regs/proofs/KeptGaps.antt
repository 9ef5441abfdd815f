-- Addresses of which no value is kept: those where no register stands, and those of a link that is as after a reset.
use Rattle.c104_regs.{proofs.{KeptEntries.{entries, entries_cut, entries_none_in}, RegisterLemmas.value_reset}, specs.Addresses.Register}
use Rattle.c104_regs.specs.{Addresses.register_at, Gaps.is_gap, KeptValues.kept_value, Settings.{Settings, reset_settings}}
use Rattle.{c104_regs.specs.declared.addresses.Address.TheVariants.{AtLink, DeviceId, Started}, std.proofs.Common.{Bool, List, None}}
use Rattle.std.proofs.Common.{Option, Some, append-nil, arith, false, get_or, if◌then◌else◌, nat_le, nat_lt, not, option_map, refl, true, ℕ}
use Rattle.std.proofs.{Common.{◌%◌, ◌&&◌, ◌+◌, ◌-◌, ◌/◌, ◌<◌, ◌==◌, ◌||◌, ◌≡◌, ◌≤◌, ◌⊎◌}, lemmas.Bool.Decides.nat_tests}

either : (a b : Bool) → (a || b) ≡ true → (a ≡ true) ⊎ (b ≡ true)
either a b is = search arith

both : (a b : Bool) → (a && b) ≡ true → (a ≡ true) × (b ≡ true)
both a b is = search arith

none_in : (o : ℕ) → nat_lt o 10 ≡ false → (o == 63) ≡ false → (nat_le 64 o && nat_lt o 100) ≡ false → (nat_le 128 o && nat_lt o 164) ≡ false → register_at o ≡ None
none_in o first base limit select = rw (first, base, limit, select) refl

outside : (o low high : ℕ) → (o < low) ⊎ (high ≤ o) → (nat_le low o && nat_lt o high) ≡ false
outside o low high beyond = search (arith, nat_tests)

-- no register stands in a gap
no_register : (o : ℕ) → is_gap o ≡ true → register_at o ≡ None
no_register o gap = search (arith, either, both, nat_tests, none_in, outside)

module _ (settings : List Settings) (a : ℕ) where
  gap_by : (first second link : Bool) → (a == 0) ≡ first → (a == 1) ≡ second → (nat_le 256 a && nat_lt a 8448) ≡ link → register_at (a % 256) ≡ None → kept_value settings a ≡ None
  gap_by first second link f s l none = search arith

  pub gap_none : is_gap (a % 256) ≡ true → kept_value settings a ≡ None
  gap_none gap = gap_by (a == 0) (a == 1) (nat_le 256 a && nat_lt a 8448) refl refl refl (no_register (a % 256) gap)

  -- the link of an address
  link_at : (l : ℕ) (r : Register) (q : Option Register) → option_map (λ p. AtLink (a / 256 - 1) p) q ≡ Some (AtLink l r) → a / 256 - 1 ≡ l
  link_at l r q at = search arith

  link_by : (l : ℕ) (r : Register) (first second link : Bool) → (if first then Some DeviceId else (if second then Some Started else (if link then option_map (λ p. AtLink (a / 256 - 1) p) (register_at (a % 256)) else None))) ≡ Some (AtLink l r) → a / 256 - 1 ≡ l
  link_by l r first second link at = search (arith, link_at)

  none_by : (n : ℕ) (writable : Bool) → (if writable && not (n == n) then Some n else None) ≡ None
  none_by n writable = search (arith, nat_tests)

  -- of a link that is as after a reset nothing is kept
  pub reset_none : get_or settings (a / 256 - 1) reset_settings ≡ reset_settings → kept_value settings a ≡ None
  reset_none is = search (arith, link_by, value_reset, none_by)

-- addresses that are passed over add nothing
pub entries_passed : (f : ℕ → Option ℕ) (n m : ℕ) → n ≤ m → ((a : ℕ) → n ≤ a → a < m → f a ≡ None) → entries f 0 m ≡ entries f 0 n
entries_passed f n m up none =
    let whole : m ≡ n + (m - n) = omega arith in
    search (arith, entries_cut, entries_none_in, append-nil)
