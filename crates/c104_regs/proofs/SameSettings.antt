-- Settings whose registers all read the same are the same.
use Rattle.c104_interval.specs.{Selection.{reset_row, row_at}, declared.intervals.{Row.Row, Table.Table}}
use Rattle.c104_regs.proofs.{KeptPokes.{AreKept, kept_reads, kept_settable, reset_kept, with_kept, with_values}, RangeLemmas.at_offset}
use Rattle.c104_regs.{proofs.RegisterLemmas.get_or-same, specs.Addresses.{IsRegister, Register, address_of, register_at}}
use Rattle.c104_regs.specs.{Addresses.register_properties, Faults.RegFault, KeptValues.kept_values, Ranges.IsInRange, Registers.bank_peek}
use Rattle.c104_regs.specs.{Registers.{placed_bank, reset_bank}, Settings.{Settings, reset_settings}, Values.{Status, bit_value}}
use Rattle.c104_regs.specs.{Values.{register_read, reset_status, select_of}, declared.addresses.Address.TheVariants.AtLink}
use Rattle.c104_regs.specs.declared.addresses.Register.TheVariants.{Base, Limit, Mode, RandomBase, RandomRange, Select}
use Rattle.std.proofs.Common.{Bool, List, Ok, Result, Some, ap, arith, get_or, refl, sym, ℕ, ◌%◌, ◌*◌, ◌+◌, ◌/◌, ◌<◌, ◌==◌, ◌∙◌, ◌≡◌}
use Rattle.std.proofs.lemmas.{Bool.Decides.nat_tests, List.ext_get_or}
use Rattle.c104_interval.specs.declared.intervals.Select as interval

-- a register stands at its address
offset_small : (r : Register) → IsRegister r → (register_properties r).offset < 256
offset_small r is = search arith

address_by : (a l off : ℕ) (r : Register) → a ≡ 256 * (l + 1) + off → off < 256 → l < 32 → register_at off ≡ Some r → address_of a ≡ Some (AtLink l r)
address_by a l off r is small inside at = search (arith, nat_tests)

address_is : (l : ℕ) (r : Register) → l < 32 → IsRegister r → address_of (256 * (l + 1) + (register_properties r).offset) ≡ Some (AtLink l r)
address_is l r inside is = address_by _ l (register_properties r).offset r refl (offset_small r is) inside (at_offset r is)

-- four bits by the number that they make
abbrev Bits : Type 0
Bits = Bool × Bool × Bool × Bool

abbrev decode : ℕ → Bits
decode v = (v % 2 == 1, (v / 2) % 2 == 1, (v / 4) % 2 == 1, (v / 8) % 2 == 1)

decoded : (a b c d : Bool) → decode (bit_value a 1 + bit_value b 2 + bit_value c 4 + bit_value d 8) ≡ (a, b, c, d)
decoded a b c d = search arith

abbrev bits_of : Settings → Bits
bits_of s = (s.two_byte, s.delete_header, s.randomize, s.continue_group)

abbrev with_bits : Bits → ℕ → ℕ → Table → Settings
with_bits b base range t = record { two_byte = b.0; delete_header = b.1; randomize = b.2; continue_group = b.3; random_base = base; random_range = range; table = t }

module _ (s t : Settings) (in_s : IsInRange s) (in_t : IsInRange t) (reads : (r : Register) → IsRegister r → register_read s reset_status r ≡ register_read t reset_status r) where
  same_bits : bits_of s ≡ bits_of t
  same_bits = sym (decoded s.two_byte s.delete_header s.randomize s.continue_group) ∙ ap decode (reads Mode tt) ∙ decoded t.two_byte t.delete_header t.randomize t.continue_group

  same_row : (k : ℕ) → k < 36 → row_at s.table k ≡ row_at t.table k
  same_row k inside =
      ap (λ n. record { limit = n; select = (row_at s.table k).select }) (reads (Limit k) inside)
      ∙ ap (λ (x : interval.Select). record { limit = (row_at t.table k).limit; select = x }) (sym (in_s.selects k) ∙ ap select_of (reads (Select k) inside) ∙ in_t.selects k)

  same_rows : s.table.rows ≡ t.table.rows
  same_rows = ext_get_or reset_row s.table.rows t.table.rows (in_s.rows ∙ sym in_t.rows) (λ i below. same_row i (omega (arith, in_s.rows)))

  same_table : s.table ≡ t.table
  same_table = ap (λ n. record { base = n; rows = s.table.rows }) (reads Base tt) ∙ ap (λ (xs : List Row). record { base = t.table.base; rows = xs }) same_rows

  pub same_settings : s ≡ t
  same_settings =
      ap (λ b. with_bits b s.random_base s.random_range s.table) same_bits
      ∙ ap (λ n. with_bits (bits_of t) n s.random_range s.table) (reads RandomBase tt)
      ∙ ap (λ n. with_bits (bits_of t) t.random_base n s.table) (reads RandomRange tt)
      ∙ ap (λ x. with_bits (bits_of t) t.random_base t.random_range x) same_table

-- and so are those of all links, by address
module _ (s t : List Settings) (kept_s : AreKept s) (kept_t : AreKept t) (reads : (a : ℕ) → bank_peek (placed_bank s) a ≡ bank_peek (placed_bank t) a) where
  one_value : (x y : ℕ) → ◌≡◌ {A = Result ℕ RegFault} (Ok x) (Ok y) → x ≡ y
  one_value x y is = cc

  read_at : (settings : List Settings) (l : ℕ) (r : Register) → l < 32 → IsRegister r → bank_peek (placed_bank settings) (256 * (l + 1) + (register_properties r).offset) ≡ Ok (register_read (get_or settings l reset_settings) reset_status r)
  read_at settings l r inside is = rw (address_is l r inside is) (ap (λ (x : Status). Ok (register_read (get_or settings l reset_settings) x r)) (get_or-same 32 l reset_status))

  same_at : (l : ℕ) → l < 32 → get_or s l reset_settings ≡ get_or t l reset_settings
  same_at l inside = same_settings (get_or s l reset_settings) (get_or t l reset_settings) (kept_s.in_range l) (kept_t.in_range l) (λ r is. one_value _ _ (sym (read_at s l r inside is) ∙ reads (256 * (l + 1) + (register_properties r).offset) ∙ read_at t l r inside is))

  pub same_all : s ≡ t
  same_all = ext_get_or reset_settings s t (kept_s.links ∙ sym kept_t.links) (λ i below. same_at i (omega (arith, kept_s.links)))

-- so what is kept, poked after a reset, gives the settings back
pub kept_back : (settings : List Settings) → AreKept settings → with_values reset_bank.settings (kept_values settings) ≡ settings
kept_back settings kept = same_all _ settings (with_kept reset_bank.settings reset_kept (kept_values settings) (kept_settable settings kept)) kept (kept_reads settings kept)
