-- What is set at one link of a switch: the input side's header length, random headers and table, and
-- the output side's deletion and group.
pub use Rattle.c104_regs.specs.declared.settings.Settings.{Settings}
use Rattle.c104_interval.specs.{Selection.reset_table, declared.intervals.Table.Table}
use Rattle.std.specs.Prelude.{false, if◌then◌else◌, ℕ}

-- one-byte headers, nothing deleted, no random headers, each link a group by itself, and this table
abbrev pub plain_settings : Table → Settings
plain_settings t = record {
  two_byte = false;
  delete_header = false;
  randomize = false;
  continue_group = false;
  random_base = 0;
  random_range = 0;
  table = t;
}

-- settings after a reset, with a table that selects nothing
abbrev pub reset_settings : Settings
reset_settings = plain_settings reset_table

-- how many bytes the headers at this link have
abbrev pub header_length : Settings → ℕ
header_length s = if s.two_byte then 2 else 1
