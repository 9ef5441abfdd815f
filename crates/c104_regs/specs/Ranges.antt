-- What the settings of every link keep: the values that a poke may set, by the table of registers.
use Rattle.c104_interval.specs.{Selection.row_at, declared.intervals.{Table.Table, TheConstants.ROWS}}
use Rattle.c104_regs.specs.{Addresses.{IsRegister, Register, register_properties, register_takes}, Settings.{Settings, plain_settings}}
use Rattle.c104_regs.specs.Values.{Status, register_read, select_code, select_of}
use Rattle.std.specs.Prelude.{IsTrue, length, ℕ, ◌≡◌}

-- settings within the ranges of their registers
pub record IsInRange (s : Settings) : Type 0 where
  -- each register that can be written reads a value that it takes, whatever the link's status is
  pub takes : (t : Status) (r : Register) → IsRegister r → IsTrue (register_properties r).is_writable → IsTrue (register_takes r (register_read s t r))
  -- each row selects what the number that its register reads stands for: so no link past the last, whose
  -- number could stand for something else
  pub selects : (k : ℕ) → select_of (select_code (row_at s.table k).select) ≡ (row_at s.table k).select
  pub rows : length s.table.rows ≡ ROWS

-- a table within the ranges of its registers: one of settings that are, with all else as after a reset
abbrev pub IsTableInRange : Table → Type 0
IsTableInRange t = IsInRange (plain_settings t)
