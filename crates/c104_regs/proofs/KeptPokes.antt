-- What is kept of settings, poked into registers that were reset, gives what reads as the settings do.
use Rattle.c104_regs.proofs.{AddressLemmas.link_at, KeptLemmas.{kept_value_is, map_of_kept, placed_below, placed_register}}
use Rattle.c104_regs.proofs.{PlacedPokes.{idle, poke_placed}, RegisterLemmas.{IsInRange-reset, IsKept-with_register, get_or-same}}
use Rattle.c104_regs.{proofs.{RegisterLemmas.{peek_other, value_reset}, ValueLemmas.value_same}, specs.Addresses.{Address, Register}}
use Rattle.c104_regs.specs.{Addresses.{address_of, register_properties, register_takes}, Faults.RegFault, KeptValues.kept_value}
use Rattle.c104_regs.specs.{KeptValues.{kept_values, unless_reset}, Ranges.IsInRange, Registers.{IsRegisterBank, IsTarget, RegisterBank}}
use Rattle.c104_regs.specs.{Registers.{bank_peek, bank_poke, placed_bank, reset_bank, settable, target, with_register}, Settings.Settings}
use Rattle.c104_regs.specs.{Settings.reset_settings, Values.{Status, register_read, reset_status}}
use Rattle.c104_regs.specs.declared.{addresses.Address.TheVariants.{AtLink, DeviceId, Started}, faults.RegFault.TheVariants.NoRegister}
use Rattle.{c104_regs.specs.declared.faults.RegFault.TheVariants.{OutOfRange, ReadOnly}, std.proofs.Common.{Bool, Err, List, None, Ok}}
use Rattle.std.proofs.Common.{Option, Result, Some, [], ap, arith, false, get_or, inl, inr, refl, replicate, subst, suc, sym, true, zero, ℕ}
use Rattle.std.{proofs.{Common.{◌==◌, ◌∙◌, ◌∷◌, ◌≡◌, ◌≢◌, ◌⊎◌}, lemmas.{Bool.Decides.nat_tests, List.get_or-set_same}}, specs.List.Contains}

-- what a poke that may be made sets
module _ (a v : ℕ) where
  target_by : (l : ℕ) (r : Register) (writable fits : Bool) → (register_properties r).is_writable ≡ writable → register_takes r v ≡ fits → address_of a ≡ Some (AtLink l r) → settable a v ≡ Ok tt → target a v ≡ Ok (l, r)
  target_by l r writable fits may takes at is = search arith

  fits_by : (l : ℕ) (r : Register) (writable fits : Bool) → (register_properties r).is_writable ≡ writable → register_takes r v ≡ fits → address_of a ≡ Some (AtLink l r) → settable a v ≡ Ok tt → IsTarget a v l r
  fits_by l r true true may takes at is = search (arith, link_at, placed_below, placed_register)
  fits_by l r true false may takes at is = let no : ◌≡◌ {A = Result (Unit {0}) RegFault} (Err OutOfRange) (Ok tt) = rw (at, may, takes) at is in cc
  fits_by l r false fits may takes at is = let no : ◌≡◌ {A = Result (Unit {0}) RegFault} (Err ReadOnly) (Ok tt) = rw (at, may) at is in cc

  -- the link and the register
  record IsSet : Type 0 where
    pub link : ℕ
    pub register : Register
    pub target_is : target a v ≡ Ok (link, register)
    pub target : IsTarget a v link register

  set_by : (x : Option Address) → address_of a ≡ x → settable a v ≡ Ok tt → IsSet
  set_by None at is = let no : ◌≡◌ {A = Result (Unit {0}) RegFault} (Err NoRegister) (Ok tt) = rw at at is in cc
  set_by (Some DeviceId) at is = let no : ◌≡◌ {A = Result (Unit {0}) RegFault} (Err ReadOnly) (Ok tt) = rw at at is in cc
  set_by (Some Started) at is = let no : ◌≡◌ {A = Result (Unit {0}) RegFault} (Err ReadOnly) (Ok tt) = rw at at is in cc
  set_by (Some (AtLink l r)) at is = record { link = l; register = r; target_is = target_by l r _ _ refl refl at is; target = fits_by l r _ _ refl refl at is }

-- settings that every switch may have
abbrev pub AreKept : List Settings → Type 0
AreKept settings = IsRegisterBank (placed_bank settings)

module _ (settings : List Settings) (kept : AreKept settings) (a v : ℕ) (may : settable a v ≡ Ok tt) where
  set : IsSet a v
  set = set_by a v (address_of a) refl may

  -- the settings after the poke
  abbrev poked : List Settings
  poked = (bank_poke (placed_bank settings) a v).1.settings

  left : (l : ℕ) (r : Register) → target a v ≡ Ok (l, r) → placed_bank poked ≡ with_register (placed_bank settings) l r v
  left l r at = sym (poke_placed a v settings) ∙ left_of l r at
    where
      left_of : (l : ℕ) (r : Register) → target a v ≡ Ok (l, r) → (bank_poke (placed_bank settings) a v).1 ≡ with_register (placed_bank settings) l r v
      left_of l r at = rw (at, idle a v settings l r) refl

  placed_with : placed_bank poked ≡ with_register (placed_bank settings) set.link set.register v
  placed_with = left set.link set.register set.target_is

  pub poked_kept : AreKept poked
  poked_kept = subst (λ (b : RegisterBank). IsRegisterBank b) (sym placed_with) (IsKept-with_register (placed_bank settings) a v set.link set.register set.target kept)

  -- reads what was poked, and elsewhere what was read
  pub reads_other : (c : ℕ) → c ≢ a → bank_peek (placed_bank poked) c ≡ bank_peek (placed_bank settings) c
  reads_other c ne = ap (λ (b : RegisterBank). bank_peek b c) placed_with ∙ peek_other (placed_bank settings) a v set.link set.register set.target kept c ne

  pub reads_poked : bank_peek (placed_bank poked) a ≡ Ok v
  reads_poked = search (arith, set, get_or-set_same, placed_with, value_same)

-- settings after values are poked, each at its address
abbrev pub with_values : List Settings → List (ℕ × ℕ) → List Settings
with_values settings [] = settings
with_values settings (x ∷ values) = with_values (bank_poke (placed_bank settings) x.0 x.1).1.settings values

-- what is read after all values: the last of an address, or else what was read before
abbrev value_or : ℕ → ℕ × ℕ → Bool → Result ℕ RegFault → Result ℕ RegFault
value_or b x true r = Ok x.1
value_or b x false r = r

abbrev read_after : List (ℕ × ℕ) → ℕ → Result ℕ RegFault → Result ℕ RegFault
read_after [] b r = r
read_after (x ∷ values) b r = read_after values b (value_or b x (b == x.0) r)

-- values that may be set, each at its address
abbrev pub AreSettable : List (ℕ × ℕ) → Type 0
AreSettable [] = Unit {0}
AreSettable (x ∷ values) = (settable x.0 x.1 ≡ Ok tt) × AreSettable values

reads_one : (settings : List Settings) (kept : AreKept settings) (x : ℕ × ℕ) (may : settable x.0 x.1 ≡ Ok tt) (b : ℕ) (is : Bool) → (b == x.0) ≡ is → bank_peek (placed_bank (bank_poke (placed_bank settings) x.0 x.1).1.settings) b ≡ value_or b x is (bank_peek (placed_bank settings) b)
reads_one settings kept x may b true is = search (arith, nat_tests, reads_poked)
reads_one settings kept x may b false is = search (arith, differ, reads_other)
  where
    differ : (b c : ℕ) → b ≡ c → (b == c) ≡ false → ⊥
    differ b c same is = grind (arith, nat_tests)

reads_after : (settings : List Settings) → AreKept settings → (values : List (ℕ × ℕ)) → AreSettable values → (b : ℕ) → bank_peek (placed_bank (with_values settings values)) b ≡ read_after values b (bank_peek (placed_bank settings) b)
reads_after settings kept [] may b = refl
reads_after settings kept (x ∷ values) (may, more) b =
    reads_after (bank_poke (placed_bank settings) x.0 x.1).1.settings (poked_kept settings kept x.0 x.1 may) values more b
    ∙ ap (read_after values b) (reads_one settings kept x may b (b == x.0) refl)

-- it is the value of some entry, or nothing has that address
record IsLast (values : List (ℕ × ℕ)) (b : ℕ) (r : Result ℕ RegFault) : Type 0 where
  pub value : ℕ
  pub among : Contains values (b, value)
  pub reads : read_after values b r ≡ Ok value

record HasNone (values : List (ℕ × ℕ)) (b : ℕ) (r : Result ℕ RegFault) : Type 0 where
  pub none : (v : ℕ) → Contains values (b, v) → ⊥
  pub reads : read_after values b r ≡ r

later : (x : ℕ × ℕ) (values : List (ℕ × ℕ)) (y : ℕ × ℕ) → Contains values y → Contains (x ∷ values) y
later x values y (k, inside, is) = (suc k, omega arith, is)

last_or_none : (values : List (ℕ × ℕ)) (b : ℕ) (r : Result ℕ RegFault) → IsLast values b r ⊎ HasNone values b r
last_or_none [] b r = inr (record { none = λ v (k, inside, is). absurd (omega arith); reads = refl })
last_or_none (x ∷ values) b r = by_test (b == x.0) refl (last_or_none values b (value_or b x (b == x.0) r))
  where
    by_test : (is : Bool) → (b == x.0) ≡ is → IsLast values b (value_or b x (b == x.0) r) ⊎ HasNone values b (value_or b x (b == x.0) r) → IsLast (x ∷ values) b r ⊎ HasNone (x ∷ values) b r
    by_test is test (inl last) = inl (record { value = last.value; among = later x values (b, last.value) last.among; reads = last.reads })
    by_test true test (inr none) =
        let same : b ≡ x.0 = grind (arith, nat_tests) in
        inl (record { value = x.1; among = (zero, omega arith, ap (λ n. (n, x.1)) (sym same)); reads = none.reads ∙ ap (λ t. value_or b x t r) test })
    by_test false test (inr none) = inr (record { none = λ v among. absent v among; reads = none.reads ∙ ap (λ t. value_or b x t r) test })
      where
        absent : (v : ℕ) → Contains (x ∷ values) (b, v) → ⊥
        absent v (zero, inside, is) = let same : x.0 ≡ b = ap (λ (y : ℕ × ℕ). y.0) is in grind (arith, nat_tests)
        absent v (suc k, inside, is) = none.none v (k, omega arith, is)

pub reset_kept : AreKept reset_bank.settings
reset_kept = record { links = refl; statuses = refl; in_range = λ l. subst IsInRange (sym (get_or-same 32 l reset_settings)) IsInRange-reset }

-- what values leave is in range too
pub with_kept : (settings : List Settings) → AreKept settings → (values : List (ℕ × ℕ)) → AreSettable values → AreKept (with_values settings values)
with_kept settings kept [] may = kept
with_kept settings kept (x ∷ values) (may, more) = with_kept (bank_poke (placed_bank settings) x.0 x.1).1.settings (poked_kept settings kept x.0 x.1 may) values more

-- a register that can't be written reads the status alone
fixed_read : (s t : Settings) (status : Status) (r : Register) → (register_properties r).is_writable ≡ false → register_read s status r ≡ register_read t status r
fixed_read s t status r fixed = search arith

module _ (settings : List Settings) (kept : AreKept settings) where
  -- where nothing is kept of an address, it reads as after a reset
  unkept_read : (l : ℕ) (r : Register) (writable resets : Bool) → (register_properties r).is_writable ≡ writable → (register_read (get_or settings l reset_settings) reset_status r == (register_properties r).reset) ≡ resets → unless_reset r (register_read (get_or settings l reset_settings) reset_status r) ≡ None → register_read reset_settings reset_status r ≡ register_read (get_or settings l reset_settings) reset_status r
  unkept_read l r writable resets may is none = search (arith, fixed_read, value_reset, nat_tests)

  unkept_by : (a : ℕ) (x : Option Address) → address_of a ≡ x → kept_value settings a ≡ None → bank_peek (placed_bank reset_bank.settings) a ≡ bank_peek (placed_bank settings) a
  unkept_by a None at none = rw at refl
  unkept_by a (Some DeviceId) at none = rw at refl
  unkept_by a (Some Started) at none = rw at refl
  unkept_by a (Some (AtLink l r)) at none =
      rw at (ap Ok (
      ap (λ (s : Settings). register_read s (get_or (replicate 32 reset_status) l reset_status) r) (get_or-same 32 l reset_settings)
      ∙ ap (λ (t : Status). register_read reset_settings t r) (get_or-same 32 l reset_status)
      ∙ unkept_read l r _ _ refl refl (unkept l r at none)
      ∙ ap (λ (t : Status). register_read (get_or settings l reset_settings) t r) (sym (get_or-same 32 l reset_status))))
    where
      unkept : (l : ℕ) (r : Register) → address_of a ≡ Some (AtLink l r) → kept_value settings a ≡ None → unless_reset r (register_read (get_or settings l reset_settings) reset_status r) ≡ None
      unkept l r at none = rw at at none

  none_of : (a : ℕ) (o : Option ℕ) → kept_value settings a ≡ o → ((v : ℕ) → Contains (kept_values settings) (a, v) → ⊥) → kept_value settings a ≡ None
  none_of a None is none = is
  none_of a (Some v) is none = absurd (none v (((map_of_kept settings kept.in_range).entries a v).1 ((kept_value_is settings kept.in_range a v).0 is)))

  all_settable : (values : List (ℕ × ℕ)) → ((x : ℕ × ℕ) → Contains values x → settable x.0 x.1 ≡ Ok tt) → AreSettable values
  all_settable [] each = tt
  all_settable (x ∷ values) each = (each x (zero, omega arith, refl), all_settable values (λ y among. each y (later x values y among)))

  pub kept_settable : AreSettable (kept_values settings)
  kept_settable = all_settable (kept_values settings) (λ x among. (((map_of_kept settings kept.in_range).entries x.0 x.1).0 among).settable)

  -- so what is kept, poked after a reset, reads as the settings do
  pub kept_reads : (a : ℕ) → bank_peek (placed_bank (with_values reset_bank.settings (kept_values settings))) a ≡ bank_peek (placed_bank settings) a
  kept_reads a = reads_after reset_bank.settings reset_kept (kept_values settings) kept_settable a ∙ by_last (last_or_none (kept_values settings) a (bank_peek (placed_bank reset_bank.settings) a))
    where
      by_last : IsLast (kept_values settings) a (bank_peek (placed_bank reset_bank.settings) a) ⊎ HasNone (kept_values settings) a (bank_peek (placed_bank reset_bank.settings) a) → read_after (kept_values settings) a (bank_peek (placed_bank reset_bank.settings) a) ≡ bank_peek (placed_bank settings) a
      by_last (inl last) = last.reads ∙ sym (((map_of_kept settings kept.in_range).entries a last.value).0 last.among).reads
      by_last (inr none) = none.reads ∙ unkept_by a (address_of a) refl (none_of a (kept_value settings a) refl none.none)
