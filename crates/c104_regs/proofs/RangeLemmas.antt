-- Settings stay within the ranges of their registers where a register is set to a value that it takes, and
-- so does the table of such settings by itself.
use Rattle.c104_interval.specs.{Selection.{reset_row, row_at}, declared.intervals.Select.TheVariants.{Discard, Link, Sink}}
use Rattle.c104_regs.{proofs.ValueLemmas.{by_writable, select_kept, value_other, value_same}, specs.Addresses.{IsRegister, Register}}
use Rattle.c104_regs.specs.{Addresses.{register_at, register_properties, register_takes}, Ranges.{IsInRange, IsTableInRange}}
use Rattle.c104_regs.specs.{Settings.{Settings, plain_settings}, Values.{Status, register_read, select_code, select_of, with_value}}
use Rattle.{c104_regs.specs.declared.addresses.Register.TheVariants.{Base, Limit, Select}, std.proofs.Common.{Bool, IsTrue, Some, arith}}
use Rattle.std.proofs.{Common.{if◌then◌else◌, inl, inr, length, nat_eq, nat_lt, refl, ℕ, ◌≡◌}, lemmas.Bool.{Decides.nat_tests, cases_eq}}
use Rattle.std.proofs.lemmas.List.{get_or-set_other, get_or-set_same, length-set}

-- a register stands at its offset, so registers of one offset are one
pub at_offset : (r : Register) → IsRegister r → register_at (register_properties r).offset ≡ Some r
at_offset r is = search (arith, nat_tests)

same_register : (q r : Register) → IsRegister q → IsRegister r → (register_properties q).offset ≡ (register_properties r).offset → q ≡ r
same_register q r is_q is_r same = search (arith, at_offset)

-- what a number selects has a number that selects the same
decoded_by : (v : ℕ) (small discards : Bool) → small ≡ nat_lt v 32 → select_of (select_code (if small then Link v else (if discards then Discard else Sink))) ≡ (if small then Link v else (if discards then Discard else Sink))
decoded_by v small discards is = search arith

module _ (s : Settings) (r : Register) (v : ℕ) (is : IsRegister r) (writable : IsTrue (register_properties r).is_writable) (fits : IsTrue (register_takes r v)) (kept : IsInRange s) where
  takes_after : (t : Status) (q : Register) → IsRegister q → IsTrue (register_properties q).is_writable → IsTrue (register_takes q (register_read (with_value s r v) t q))
  takes_after t q is_q may = search (arith, cases_eq, same_register, value_same, value_other)

  selects_after : (j : ℕ) → select_of (select_code (row_at (with_value s r v).table j).select) ≡ (row_at (with_value s r v).table j).select
  selects_after j =
      by_writable (λ r. IsRegister r → select_of (select_code (row_at (with_value s r v).table j).select) ≡ (row_at (with_value s r v).table j).select)
      (λ _. kept.selects j) (λ _. kept.selects j) (λ _. kept.selects j) (λ _. kept.selects j)
      (λ k below. rw (select_kept s.table.rows k j v (rw kept.rows below)) (kept.selects j))
      (λ k below. elim (cases_eq j k) [
        | inl same ↦ rw same (rw (get_or-set_same s.table.rows k _ reset_row (rw kept.rows below)) (decoded_by v (nat_lt v 32) (nat_eq v 32) refl))
        | inr differs ↦ rw (get_or-set_other s.table.rows k j _ reset_row differs) (kept.selects j)
      ])
      r writable is

  rows_after : length (with_value s r v).table.rows ≡ 36
  rows_after = search (arith, by_writable, length-set)

  -- settings of which a register was set stay within the ranges
  pub IsInRange-with_value : IsInRange (with_value s r v)
  IsInRange-with_value = record { takes = takes_after; selects = selects_after; rows = rows_after }

-- the table of settings within the ranges of their registers is so too
pub IsTableInRange-of : (s : Settings) → IsInRange s → IsTableInRange s.table
IsTableInRange-of s kept = record {
  takes = λ status r is writable.
      by_writable (λ r. IsRegister r → IsTrue (register_takes r (register_read (plain_settings s.table) status r)))
      (λ _. refl) (λ _. refl) (λ _. refl)
      (λ is. kept.takes status Base is refl) (λ k is. kept.takes status (Limit k) is refl) (λ k is. kept.takes status (Select k) is refl)
      r writable is;
  selects = kept.selects;
  rows = kept.rows;
}
