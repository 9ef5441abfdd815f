-- An address says what stands there, and that says the address.
use Rattle.c104_regs.specs.Addresses.{Address, Register, address_number, address_of, first_registers, register_at, register_properties}
use Rattle.c104_regs.specs.declared.addresses.{Address.TheVariants.{AtLink, DeviceId, Started}, Register.TheVariants.{Base, Limit, Select}}
use Rattle.std.proofs.Common.{Bool, None, Option, Some, ap, arith, if◌then◌else◌, nat_eq, nat_le, nat_lt, option_map, refl, slice_get, ℕ}
use Rattle.std.proofs.{Common.{◌%◌, ◌&&◌, ◌-◌, ◌/◌, ◌≡◌, ◌≤◌}, lemmas.Bool.Decides.nat_tests}

-- a register stands at its offset
is_offset : (r q : Register) → Some r ≡ Some q → (register_properties q).offset ≡ (register_properties r).offset
is_offset r q is = let same : q ≡ r = cc in ap (λ (p : Register). (register_properties p).offset) same

offset_of_first : (offset : ℕ) (r : Register) → slice_get first_registers offset ≡ Some r → (register_properties r).offset ≡ offset
offset_of_first offset r at = search (arith, is_offset)

-- with the tests as variables
offset_by : (offset : ℕ) (r : Register) (first base limit select : Bool)
    → base ≡ nat_eq offset 63 → limit ≡ (nat_le 64 offset && nat_lt offset 100) → select ≡ (nat_le 128 offset && nat_lt offset 164)
    → (if first then slice_get first_registers offset else (if base then Some Base else (if limit then Some (Limit (offset - 64)) else (if select then Some (Select (offset - 128)) else None)))) ≡ Some r
    → (register_properties r).offset ≡ offset
offset_by offset r first base limit select is_base is_limit is_select at = search (arith, offset_of_first, is_offset, nat_tests)

offset_is : (offset : ℕ) (r : Register) → register_at offset ≡ Some r → (register_properties r).offset ≡ offset
offset_is offset r at = offset_by offset r (nat_lt offset 10) _ _ _ refl refl refl at

-- the same of an address
address_number_at : (a : ℕ) (x y : Address) → Some x ≡ Some y → address_number y ≡ address_number x
address_number_at a x y is = let same : y ≡ x = cc in ap address_number same

link_number : (a : ℕ) (r : Option Register) (x : Address) → r ≡ register_at (a % 256) → 256 ≤ a → option_map (λ q. AtLink (a / 256 - 1) q) r ≡ Some x → address_number x ≡ a
link_number a r x is past at = search (arith, offset_is, address_number_at)

address_by : (a : ℕ) (x : Address) (first second link : Bool)
    → first ≡ nat_eq a 0 → second ≡ nat_eq a 1 → link ≡ (nat_le 256 a && nat_lt a 8448)
    → (if first then Some DeviceId else (if second then Some Started else (if link then option_map (λ r. AtLink (a / 256 - 1) r) (register_at (a % 256)) else None))) ≡ Some x
    → address_number x ≡ a
address_by a x first second link is_first is_second is_link at = search (arith, address_number_at, nat_tests, link_number)

-- what stands at an address has that address
pub address_number_is : (a : ℕ) (x : Address) → address_of a ≡ Some x → address_number x ≡ a
address_number_is a x at = address_by a x _ _ _ refl refl refl at

at_same : (l k : ℕ) (r q : Register) → Some (AtLink k q) ≡ Some (AtLink l r) → l ≡ k
at_same l k r q is = cc

link_of : (a : ℕ) (r : Register) (l : ℕ) (q : Option Register) → option_map (λ p. AtLink (a / 256 - 1) p) q ≡ Some (AtLink l r) → l ≡ a / 256 - 1
link_of a r l q at = search (arith, at_same)

link_by : (a l : ℕ) (r : Register) (first second link : Bool)
    → (if first then Some DeviceId else (if second then Some Started else (if link then option_map (λ p. AtLink (a / 256 - 1) p) (register_at (a % 256)) else None))) ≡ Some (AtLink l r)
    → l ≡ a / 256 - 1
link_by a l r first second link at = search (arith, link_of)

-- the link of an address
pub link_at : (a l : ℕ) (r : Register) → address_of a ≡ Some (AtLink l r) → l ≡ a / 256 - 1
link_at a l r at = link_by a l r _ _ _ at
