-- The ranges of the registers as numbers: what settings within them hold, and which settings are within
-- them. This follows the table of registers, and changes with it.
use Rattle.c104_interval.specs.{Selection.row_at, declared.intervals.{Select.TheVariants.{Discard, Link, Sink}, Table.Table}}
use Rattle.c104_regs.{proofs.ValueLemmas.by_writable, specs.{Addresses.register_takes, Ranges.{IsInRange, IsTableInRange}}}
use Rattle.c104_regs.specs.{Settings.Settings, Values.{bit_value, select_code, select_of}, declared.addresses.Register.TheVariants.Mode}
use Rattle.{c104_regs.specs.declared.addresses.Register.TheVariants.Select, std.proofs.Common.{Bool, IsTrue, arith, length, ℕ, ◌+◌, ◌<◌}}
use Rattle.std.proofs.{Common.{◌≡◌, ◌≤◌}, lemmas.Bool.Decides.nat_tests}
use Rattle.c104_interval.specs.declared.intervals.Select as interval

-- what a row may select: a link that there is, to discard the header, or the sink
abbrev pub IsSelectable : interval.Select → Type 0
IsSelectable (Link l) = l < 32
IsSelectable Discard = Unit {0}
IsSelectable Sink = Unit {0}

-- the numbers of a table
pub record AreTableNumbers (t : Table) : Type 0 where
  pub base : t.base < 65536
  pub rows : length t.rows ≡ 36
  pub limits : (k : ℕ) → (row_at t k).limit ≤ 65536
  pub selects : (k : ℕ) → IsSelectable (row_at t k).select

selectable_takes : (k : ℕ) (x : interval.Select) → IsSelectable x → IsTrue (register_takes (Select k) (select_code x))
selectable_takes k x is = search (arith, nat_tests)

selectable_decoded : (x : interval.Select) → IsSelectable x → select_of (select_code x) ≡ x
selectable_decoded x is = search (arith, nat_tests)

-- a table of such numbers is within the ranges of its registers
pub IsTableInRange-from : (t : Table) → AreTableNumbers t → IsTableInRange t
IsTableInRange-from t numbers = search (arith, by_writable, nat_tests, selectable_takes, selectable_decoded)

-- four bits make a mode
mode_takes : (two_byte deletes randomize continues : Bool) → IsTrue (register_takes Mode (bit_value two_byte 1 + bit_value deletes 2 + bit_value randomize 4 + bit_value continues 8))
mode_takes two_byte deletes randomize continues = search arith

-- settings with such a table
pub IsInRange-from : (s : Settings) → s.random_base < 65536 → s.random_range ≤ 65536 → IsTableInRange s.table → IsInRange s
IsInRange-from s base range table = search (arith, by_writable, mode_takes, nat_tests)
