-- The registers of a link are a view of its settings: a register that was set reads what it was set to,
-- each other one reads what it did, and the settings stay within their ranges.
use Rattle.c104_interval.specs.{Selection.reset_row, declared.intervals.{Row.Row, Select.TheVariants.{Discard, Link, Sink}}}
use Rattle.c104_regs.specs.{Addresses.{IsRegister, Register, register_properties, register_takes}, Settings.Settings, Values.Status}
use Rattle.c104_regs.specs.{Values.{register_read, select_code, select_of, with_value}, declared.addresses.Register.TheVariants.Base}
use Rattle.{c104_regs.specs.declared.addresses.Register.TheVariants.{Limit, Mode, RandomBase, RandomRange, Select}, std.proofs.Common.Bool}
use Rattle.std.proofs.Common.{IsTrue, List, arith, get_or, if◌then◌else◌, length, nat_eq, nat_lt, refl, set, ℕ, ◌<◌, ◌≡◌, ◌≢◌}
use Rattle.std.proofs.lemmas.{Bool.{Decides.nat_tests, cases_eq}, List.{get_or-set_other, get_or-set_same}}
use Rattle.c104_interval.specs.declared.intervals.Select as interval

-- what holds of each register that can be written
pub by_writable : (P : Register → Type 0) → P Mode → P RandomBase → P RandomRange → P Base → ((k : ℕ) → P (Limit k)) → ((k : ℕ) → P (Select k)) → (r : Register) → IsTrue (register_properties r).is_writable → P r
by_writable P mode base range first limits selects r is = search arith

-- a row of which a field was set has the others as they were, and each other row is as it was
pub limit_kept : (rows : List Row) (k j : ℕ) (x : interval.Select) → k < length rows → (get_or (set rows k (record { limit = (get_or rows k reset_row).limit; select = x })) j reset_row).limit ≡ (get_or rows j reset_row).limit
limit_kept rows k j x here = search (arith, cases_eq, get_or-set_same, get_or-set_other)

pub select_kept : (rows : List Row) (k j n : ℕ) → k < length rows → (get_or (set rows k (record { limit = n; select = (get_or rows k reset_row).select })) j reset_row).select ≡ (get_or rows j reset_row).select
select_kept rows k j n here = search (arith, cases_eq, get_or-set_same, get_or-set_other)

-- each register but the one that was set reads what it did
pub value_other : (s : Settings) (t : Status) (r q : Register) (v : ℕ) → length s.table.rows ≡ 36 → IsRegister r → IsTrue (register_properties r).is_writable → q ≢ r → register_read (with_value s r v) t q ≡ register_read s t q
value_other s t r q v rows is writable ne = search (arith, by_writable, get_or-set_other, limit_kept, select_kept)

-- a number that a row's select takes is that of what it selects
code_by : (k v : ℕ) (small discards : Bool) → IsTrue (register_takes (Select k) v) → small ≡ nat_lt v 32 → discards ≡ nat_eq v 32 → select_code (if small then Link v else (if discards then Discard else Sink)) ≡ v
code_by k v small discards fits is_small is_discard = search (arith, nat_tests)

pub code_same : (k v : ℕ) → IsTrue (register_takes (Select k) v) → select_code (select_of v) ≡ v
code_same k v fits = code_by k v _ _ fits refl refl

-- a register that was set to a value that it takes reads it
pub value_same : (s : Settings) (t : Status) (r : Register) (v : ℕ) → length s.table.rows ≡ 36 → IsRegister r → IsTrue (register_properties r).is_writable → IsTrue (register_takes r v) → register_read (with_value s r v) t r ≡ v
value_same s t r v rows is writable fits = search (arith, by_writable, nat_tests, get_or-set_same, code_same)
