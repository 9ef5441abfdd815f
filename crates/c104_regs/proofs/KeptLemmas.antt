-- The values that are kept of settings are those that a poke may set, that are read, and that aren't read
-- after a reset; with their addresses they are a finite map.
use Rattle.c104_regs.proofs.KeptEntries.{ascending, entries, entries_more, entries_none, entry_has, entry_value}
use Rattle.c104_regs.{proofs.RegisterLemmas.{get_or-same, reset_values, value_reset}, specs.Addresses.{Address, IsRegister, Register}}
use Rattle.c104_regs.specs.{Addresses.{address_of, first_registers, register_at, register_properties, register_takes}, Faults.RegFault}
use Rattle.c104_regs.specs.{KeptValues.{IsKept, IsMapOf, kept_value, kept_values, unless_reset}, Ranges.IsInRange, Registers.bank_peek}
use Rattle.c104_regs.specs.{Registers.{placed_bank, reset_bank, settable}, Settings.{Settings, reset_settings}, Values.Status}
use Rattle.c104_regs.specs.{Values.{register_read, reset_status}, declared.addresses.Address.TheVariants.{AtLink, DeviceId, Started}}
use Rattle.c104_regs.specs.declared.{addresses.Register.TheVariants.{Base, Limit, Select}, faults.RegFault.TheVariants.NoRegister}
use Rattle.{c104_regs.specs.declared.faults.RegFault.TheVariants.ReadOnly, std.proofs.Common.{Bool, Err, IsTrue, List, None, Ok, Option}}
use Rattle.std.proofs.Common.{Result, Some, [], ap, append-nil, arith, false, get_or, if◌then◌else◌, nat_le, nat_lt, not, option_map, refl}
use Rattle.std.proofs.Common.{replicate, slice_get, subst, sym, true, ℕ, ◌%◌, ◌&&◌, ◌++◌, ◌+◌, ◌-◌, ◌/◌, ◌<◌, ◌==◌, ◌↔◌, ◌∙◌, ◌∷◌, ◌≡◌}
use Rattle.std.{proofs.lemmas.Bool.Decides.nat_tests, specs.List.Contains}

-- what stands at an address is one of the registers that there are
is_one : (r q : Register) → Some r ≡ Some q → IsRegister r → IsRegister q
is_one r q is here = let same : r ≡ q = cc in subst IsRegister same here

one_of_first : (offset : ℕ) (r : Register) → slice_get first_registers offset ≡ Some r → IsRegister r
one_of_first offset r at = search (arith, is_one)

one_by : (offset : ℕ) (r : Register) (first base limit select : Bool)
    → limit ≡ (nat_le 64 offset && nat_lt offset 100) → select ≡ (nat_le 128 offset && nat_lt offset 164)
    → (if first then slice_get first_registers offset else (if base then Some Base else (if limit then Some (Limit (offset - 64)) else (if select then Some (Select (offset - 128)) else None)))) ≡ Some r
    → IsRegister r
one_by offset r first base limit select is_limit is_select at = search (arith, one_of_first, is_one, nat_tests)

is_register : (offset : ℕ) (r : Register) → register_at offset ≡ Some r → IsRegister r
is_register offset r at = one_by offset r (nat_lt offset 10) _ _ _ refl refl at

-- and its address is below the end
record IsPlaced (a : ℕ) (r : Register) : Type 0 where
  pub register : IsRegister r
  pub below : a < 8448

at_link : (a l : ℕ) (r : Register) (q : Option Register) → q ≡ register_at (a % 256) → option_map (λ p. AtLink (a / 256 - 1) p) q ≡ Some (AtLink l r) → IsRegister r
at_link a l r q is at = search (arith, is_register)

placed_by : (a l : ℕ) (r : Register) (first second link : Bool) → link ≡ (nat_le 256 a && nat_lt a 8448)
    → (if first then Some DeviceId else (if second then Some Started else (if link then option_map (λ p. AtLink (a / 256 - 1) p) (register_at (a % 256)) else None))) ≡ Some (AtLink l r)
    → IsPlaced a r
placed_by a l r first second link is at = search (arith, at_link, nat_tests)

placed : (a l : ℕ) (r : Register) → address_of a ≡ Some (AtLink l r) → IsPlaced a r
placed a l r at = placed_by a l r _ _ _ refl at

pub placed_below : (a l : ℕ) (r : Register) → address_of a ≡ Some (AtLink l r) → a < 8448
placed_below a l r at = (placed a l r at).below

pub placed_register : (a l : ℕ) (r : Register) → address_of a ≡ Some (AtLink l r) → IsRegister r
placed_register a l r at = (placed a l r at).register

-- a value that is kept is of a register that can be written, and not that after a reset
record IsUnlessReset (r : Register) (w v : ℕ) : Type 0 where
  pub writable : (register_properties r).is_writable ≡ true
  pub same : w ≡ v
  pub differs : (w == (register_properties r).reset) ≡ false

unless_by : (r : Register) (w v : ℕ) (writable resets : Bool) → (register_properties r).is_writable ≡ writable → (w == (register_properties r).reset) ≡ resets → (if writable && not resets then Some w else None) ≡ Some v → IsUnlessReset r w v
unless_by r w v writable resets may differs is = search arith

module _ (settings : List Settings) (ranges : (l : ℕ) → IsInRange (get_or settings l reset_settings)) (a v : ℕ) where
  module _ (l : ℕ) (r : Register) (at : address_of a ≡ Some (AtLink l r)) where
    -- what is read there
    abbrev read : ℕ
    read = register_read (get_or settings l reset_settings) reset_status r

    reads_placed : bank_peek (placed_bank settings) a ≡ Ok read
    reads_placed = rw at (ap Ok (ap (λ (t : Status). register_read (get_or settings l reset_settings) t r) (get_or-same 32 l reset_status)))

    reads_reset : bank_peek reset_bank a ≡ Ok (register_properties r).reset
    reads_reset = rw at (ap Ok (reset_values l r))

    one_value : (x y : ℕ) → ◌≡◌ {A = Result ℕ RegFault} (Ok x) (Ok y) → x ≡ y
    one_value x y is = cc

    from_kept : IsUnlessReset r read v → IsKept settings a v
    from_kept u =
        let fits : register_takes r v ≡ true = subst (λ n. IsTrue (register_takes r n)) u.same ((ranges l).takes reset_status r (placed a l r at).register u.writable) in
        search (arith, reads_placed, one_value, reads_reset, nat_tests)

    to_kept : IsKept settings a v → unless_reset r read ≡ Some v
    to_kept k = search (arith, one_value, reads_placed, nat_tests, reads_reset)

  no_register : settable a v ≡ Err NoRegister → IsKept settings a v → kept_value settings a ≡ Some v
  no_register none k = let done = k.settable in cc

  read_only : settable a v ≡ Err ReadOnly → IsKept settings a v → kept_value settings a ≡ Some v
  read_only fixed k = let done = k.settable in cc

  pub kept_value_is : (kept_value settings a ≡ Some v) ↔ IsKept settings a v
  kept_value_is = (λ is. from (address_of a) refl is, λ k. to (address_of a) refl k)
    where
      from : (x : Option Address) → address_of a ≡ x → kept_value settings a ≡ Some v → IsKept settings a v
      from None at is = let no : ◌≡◌ {A = Option ℕ} None (Some v) = rw at at is in cc
      from (Some DeviceId) at is = let no : ◌≡◌ {A = Option ℕ} None (Some v) = rw at at is in cc
      from (Some Started) at is = let no : ◌≡◌ {A = Option ℕ} None (Some v) = rw at at is in cc
      from (Some (AtLink l r)) at is = from_kept l r at (unless_by r (read l r at) v _ _ refl refl (rw at at is))

      to : (x : Option Address) → address_of a ≡ x → IsKept settings a v → kept_value settings a ≡ Some v
      to x at k = search (arith, no_register, read_only, to_kept)

  pub kept_value_below : kept_value settings a ≡ Some v → a < 8448
  kept_value_below is = search (arith, placed)

-- so all of them are the finite map of those that are kept
module _ (settings : List Settings) (ranges : (l : ℕ) → IsInRange (get_or settings l reset_settings)) where
  entries_are : (a v : ℕ) → Contains {X = ℕ × ℕ} (entries (kept_value settings) 0 8448) (a, v) ↔ IsKept settings a v
  entries_are a v = (
    λ has. (kept_value_is settings ranges a v).0 (entry_value (kept_value settings) 0 8448 a v has),
    λ is. let value = (kept_value_is settings ranges a v).1 is in entry_has (kept_value settings) 0 8448 a v value (omega arith) (omega (arith, kept_value_below settings ranges a v value)),
  )

  pub map_of_entries : (end : ℕ) → end ≡ 8448 → IsMapOf settings (entries (kept_value settings) 0 end)
  map_of_entries end is = subst (λ n. IsMapOf settings (entries (kept_value settings) 0 n)) (sym is) (record { ascending = ascending (kept_value settings) 0 8448; entries = entries_are })

-- the last entries make all of them
pub entries_all : (settings : List Settings) (end : ℕ) → end ≡ 8448 → entries (kept_value settings) 0 end ≡ kept_values settings
unfolding kept_values
entries_all settings end is = ap (λ n. entries (kept_value settings) 0 n) is

pub map_of_kept : (settings : List Settings) → ((l : ℕ) → IsInRange (get_or settings l reset_settings)) → IsMapOf settings (kept_values settings)
map_of_kept settings ranges = subst (IsMapOf settings) (entries_all settings 8448 refl) (map_of_entries settings ranges 8448 refl)

-- after a reset nothing is kept
reset_by : (n : ℕ) (writable : Bool) → ◌≡◌ {A = Option ℕ} (if writable && not (n == n) then Some n else None) None
reset_by n writable = search (arith, nat_tests)

none_kept : (a : ℕ) → kept_value (replicate 32 reset_settings) a ≡ None
none_kept a = by_address (address_of a) refl
  where
    by_address : (x : Option Address) → address_of a ≡ x → kept_value (replicate 32 reset_settings) a ≡ None
    by_address None at = rw at refl
    by_address (Some DeviceId) at = rw at refl
    by_address (Some Started) at = rw at refl
    by_address (Some (AtLink l r)) at =
        let reset : register_read (get_or (replicate 32 reset_settings) l reset_settings) reset_status r ≡ (register_properties r).reset =
        ap (λ (s : Settings). register_read s reset_status r) (get_or-same 32 l reset_settings) ∙ value_reset r in
        rw (at, reset) (reset_by (register_properties r).reset (register_properties r).is_writable)

pub none_kept_values : [] ≡ kept_values (replicate 32 reset_settings)
none_kept_values = sym (entries_none (kept_value (replicate 32 reset_settings)) none_kept 0 8448) ∙ entries_all (replicate 32 reset_settings) 8448 refl

-- one more address: its value goes behind those so far, if it has one
pub entries_next : (settings : List Settings) (n v : ℕ) (before after : List (ℕ × ℕ)) → before ≡ entries (kept_value settings) 0 n → Some v ≡ kept_value settings n → after ≡ before ++ (n, v) ∷ [] → after ≡ entries (kept_value settings) 0 (n + 1)
entries_next settings n v before after made is pushed = search (arith, entries_more)

pub entries_skip : (settings : List Settings) (n : ℕ) (before : List (ℕ × ℕ)) → before ≡ entries (kept_value settings) 0 n → None ≡ kept_value settings n → before ≡ entries (kept_value settings) 0 (n + 1)
entries_skip settings n before made is = search (arith, append-nil, entries_more)
