-- The registers of a switch are a map: a poke changes what one address reads, and what every switch's
-- registers keep stays.
use Rattle.c104_interval.specs.{Selection.{reset_row, reset_table}, declared.intervals.Row.Row}
use Rattle.c104_regs.proofs.{AddressLemmas.address_number_is, RangeLemmas.IsInRange-with_value, RangeNumbers.IsSelectable}
use Rattle.c104_regs.{proofs.{RangeNumbers.IsTableInRange-from, ValueLemmas.value_other}, specs.Addresses.{Address, IsRegister, Register}}
use Rattle.c104_regs.specs.{Addresses.{address_number, address_of, register_properties}, Ranges.IsInRange, Registers.IsRegisterBank}
use Rattle.c104_regs.specs.Registers.{IsTarget, RegisterBank, address_value, bank_peek, reset_bank, settable, settings_at, status_at}
use Rattle.c104_regs.specs.{Registers.with_register, Settings.{Settings, reset_settings}, Values.{Status, register_read, reset_status}}
use Rattle.c104_regs.specs.{Values.{select_code, with_value}, declared.addresses.Address.TheVariants.{AtLink, DeviceId, Started}}
use Rattle.c104_regs.specs.declared.addresses.Register.TheVariants.{Base, Credit, Granted, InputLevel, Limit, Mode, OutputLevel, Owner}
use Rattle.c104_regs.specs.declared.addresses.Register.TheVariants.{RandomBase, RandomRange, Select, Short, Sunk}
use Rattle.{c104_regs.specs.declared.faults.RegFault.TheVariants.OutOfRange, std.proofs.Common.{Err, List, None, Ok, Option, Some, [], ap}}
use Rattle.std.proofs.Common.{arith, false, get_or, inl, inr, length, refl, replicate, set, subst, suc, sym, zero, ℕ, ◌<◌, ◌∙◌, ◌≡◌, ◌≢◌}
use Rattle.std.proofs.{Common.◌≤◌, lemmas.{Bool.cases_eq, List.{get_or-set_other, get_or-set_same, get_or_default, get_or_past}}}
use Rattle.std.proofs.lemmas.List.{length-set}

-- what is set at the link that was poked, and at each other one
settings_at-same : (b : RegisterBank) (l : ℕ) (r : Register) (v : ℕ) → l < length b.settings → settings_at (with_register b l r v) l ≡ with_value (settings_at b l) r v
settings_at-same b l r v below = get_or-set_same b.settings l (with_value (settings_at b l) r v) reset_settings below

settings_at-other : (b : RegisterBank) (l k : ℕ) (r : Register) (v : ℕ) → k ≢ l → settings_at (with_register b l r v) k ≡ settings_at b k
settings_at-other b l k r v ne = get_or-set_other b.settings l k (with_value (settings_at b l) r v) reset_settings ne

-- what the registers keep stays
pub IsKept-with_register : (b : RegisterBank) (a v l : ℕ) (r : Register) → IsTarget a v l r → IsRegisterBank b → IsRegisterBank (with_register b l r v)
IsKept-with_register b a v l r target kept =
    let here : l < length b.settings = rw kept.links target.link in
    record {
      links = rw length-set kept.links;
      statuses = kept.statuses;
      in_range = λ k. elim (cases_eq k l) [
        | inl same ↦ rw same (rw (settings_at-same b l r v here) (IsInRange-with_value _ r v target.register target.is_writable target.in_range (kept.in_range l)))
        | inr differs ↦ rw (settings_at-other b l k r v differs) (kept.in_range k)
      ];
    }

-- each address but the one that was poked reads what it did
read_other : (b : RegisterBank) (a v l : ℕ) (r : Register) → IsTarget a v l r → IsRegisterBank b → (c : ℕ) → c ≢ a → (x : Address) → address_of c ≡ Some x → address_value (with_register b l r v) x ≡ address_value b x
read_other b a v l r target kept c ne DeviceId at = refl
read_other b a v l r target kept c ne Started at = refl
read_other b a v l r target kept c ne (AtLink k q) at =
    elim (cases_eq k l) [
      | inl same ↦
          let here : l < length b.settings = rw kept.links target.link in
          let differs : q ≢ r = λ is. ne (sym (address_number_is c (AtLink k q) at) ∙ ap (λ (x : Address). address_number x) (link_same k l q r same is) ∙ address_number_is a (AtLink l r) target.at) in
          rw same (rw (settings_at-same b l r v here) (value_other (settings_at b l) (status_at b l) r q v (kept.in_range l).rows target.register target.is_writable differs))
      | inr differs ↦ ap (λ (s : Settings). register_read s (status_at b k) q) (settings_at-other b l k r v differs)
    ]
  where
    link_same : (k l : ℕ) (q r : Register) → k ≡ l → q ≡ r → AtLink k q ≡ AtLink l r
    link_same k l q r same is = cc

pub peek_other : (b : RegisterBank) (a v l : ℕ) (r : Register) → IsTarget a v l r → IsRegisterBank b → (c : ℕ) → c ≢ a → bank_peek (with_register b l r v) c ≡ bank_peek b c
peek_other b a v l r target kept c ne = by_address (address_of c) refl
  where
    by_address : (x : Option Address) → address_of c ≡ x → bank_peek (with_register b l r v) c ≡ bank_peek b c
    by_address None at = rw at refl
    by_address (Some x) at = rw at (ap Ok (read_other b a v l r target kept c ne x at))

-- what a register within its range reads isn't refused there for its value
held_is_taken : (s : Settings) (t : Status) (r : Register) (a v l : ℕ) → v ≡ register_read s t r → IsInRange s → address_of a ≡ Some (AtLink l r) → IsRegister r → settable a v ≢ Err OutOfRange
held_is_taken s t r a v l read kept at is = search arith

-- the same of a link of all, read with any default
pub held_at_is_taken : (settings : List Settings) (d : Settings) (t : Status) (r : Register) (a v l : ℕ) → v ≡ register_read (get_or settings l d) t r → l < length settings → IsInRange (get_or settings l reset_settings) → address_of a ≡ Some (AtLink l r) → IsRegister r → settable a v ≢ Err OutOfRange
held_at_is_taken settings d t r a v l read inside kept at is = search (arith, held_is_taken, get_or_default)

-- a list of one value reads it everywhere
pub get_or-same : {X : Type 0} (n i : ℕ) (x : X) → get_or (replicate n x) i x ≡ x
get_or-same zero i x = get_or_past [] i x (omega arith)
get_or-same (suc n) zero x = refl
get_or-same (suc n) (suc i) x = get_or-same n i x

pub get_or-replicate_inside : {X : Type 0} (n i : ℕ) (x d : X) → i < n → get_or (replicate n x) i d ≡ x
get_or-replicate_inside zero i x d inside = absurd (omega arith)
get_or-replicate_inside (suc n) zero x d inside = refl
get_or-replicate_inside (suc n) (suc i) x d inside = get_or-replicate_inside n i x d (omega arith)

pub value_reset : (r : Register) → register_read reset_settings reset_status r ≡ (register_properties r).reset
value_reset Mode = refl
value_reset RandomBase = refl
value_reset RandomRange = refl
value_reset Sunk = refl
value_reset Short = refl
value_reset InputLevel = refl
value_reset OutputLevel = refl
value_reset Credit = refl
value_reset Granted = refl
value_reset Owner = refl
value_reset Base = refl
value_reset (Limit k) = ap (λ (row : Row). row.limit) (get_or-same 36 k reset_row)
value_reset (Select k) = ap (λ (row : Row). select_code row.select) (get_or-same 36 k reset_row)

-- after a reset each register of a link reads what the table says
pub reset_values : (l : ℕ) (r : Register) → register_read (settings_at reset_bank l) (status_at reset_bank l) r ≡ (register_properties r).reset
reset_values l r = search (arith, get_or-same, value_reset)

-- the registers of a switch that isn't started, all of whose links have these settings and this status
abbrev bank_of : Settings → Status → RegisterBank
bank_of s t = record { started = false; settings = replicate 32 s; statuses = replicate 32 t }

pub reset_values_of : (s : Settings) (t : Status) → s ≡ reset_settings → t ≡ reset_status → (l : ℕ) (r : Register) → register_read (settings_at (bank_of s t) l) (status_at (bank_of s t) l) r ≡ (register_properties r).reset
reset_values_of s t set told l r =
    let same : bank_of s t ≡ reset_bank = ap (λ (x : Settings). bank_of x t) set ∙ ap (λ (x : Status). bank_of reset_settings x) told in
    subst (λ (b : RegisterBank). register_read (settings_at b l) (status_at b l) r ≡ (register_properties r).reset) (sym same) (reset_values l r)

pub IsInRange-reset : IsInRange reset_settings
IsInRange-reset = IsTableInRange-from reset_table (record {
  base = omega arith;
  rows = refl;
  limits = λ k. subst (λ (row : Row). row.limit ≤ 65536) (sym (get_or-same 36 k reset_row)) (omega arith);
  selects = λ k. subst (λ (row : Row). IsSelectable row.select) (sym (get_or-same 36 k reset_row)) tt;
})

pub IsKept-reset : IsRegisterBank reset_bank
IsKept-reset = search (arith, get_or-same, IsInRange-reset)
