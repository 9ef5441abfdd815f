-- The registers as a view of a link's settings and status: what a register reads, and the settings
-- after it is set.
--     register_read s t r      what register r reads
--     with_value s r v      the settings after register r is set to v
pub use Rattle.c104_regs.specs.declared.status.Status.{Status}
use Rattle.c104_interval.specs.{Selection.row_at, declared.intervals.{Row.Row, Select.TheVariants.{Discard, Link, Sink}}}
use Rattle.c104_regs.specs.{Addresses.Register, Settings.Settings, declared.addresses.Register.TheVariants.{Base, Credit, Granted}}
use Rattle.c104_regs.specs.declared.addresses.Register.TheVariants.{InputLevel, Limit, Mode, OutputLevel, Owner, RandomBase, RandomRange}
use Rattle.c104_regs.specs.declared.{addresses.Register.TheVariants.{Select, Short, Sunk}, registers.TheConstants.LINKS}
use Rattle.c104_regs.specs.declared.values.TheConstants.{DISCARD_CODE, SINK_CODE}
use Rattle.std.specs.Prelude.{Bool, None, Option, Some, false, if◌then◌else◌, nat_lt, slice_set, true, ℕ, ◌%◌, ◌+◌, ◌/◌, ◌==◌}
use Rattle.c104_interval.specs.declared.intervals.Select as interval

-- a status after a reset, before any token came and any credit was granted
abbrev pub reset_status : Status
reset_status = record {
  sunk = 0;
  short = 0;
  input_level = 0;
  output_level = 0;
  credit = 0;
  granted = 0;
  owner = None;
  busy = false;
}

-- n where a bit is set, and else 0
abbrev pub bit_value : Bool → ℕ → ℕ
bit_value true n = n
bit_value false n = 0

-- the four bits of a link's mode
abbrev pub mode_of : Settings → ℕ
mode_of s =
    bit_value s.two_byte 1 + bit_value s.delete_header 2 + bit_value s.randomize 4 + bit_value s.continue_group 8

-- the number of what a row selects
abbrev pub select_code : interval.Select → ℕ
select_code (Link l) = l
select_code Discard = DISCARD_CODE
select_code Sink = SINK_CODE

-- what a number selects
abbrev pub select_of : ℕ → interval.Select
select_of v = if nat_lt v LINKS then Link v else (if v == DISCARD_CODE then Discard else Sink)

-- 0 where no input streams to an output, and else 1 and the input
abbrev pub owner_code : Option ℕ → ℕ
owner_code None = 0
owner_code (Some i) = 1 + i

-- what register r reads, at a link with these settings and this status
abbrev pub register_read : Settings → Status → Register → ℕ
register_read s t Mode = mode_of s
register_read s t RandomBase = s.random_base
register_read s t RandomRange = s.random_range
register_read s t Sunk = t.sunk
register_read s t Short = t.short
register_read s t InputLevel = t.input_level
register_read s t OutputLevel = t.output_level
register_read s t Credit = t.credit
register_read s t Granted = t.granted
register_read s t Owner = owner_code t.owner
register_read s t Base = s.table.base
register_read s t (Limit k) = (row_at s.table k).limit
register_read s t (Select k) = select_code (row_at s.table k).select

-- the settings with row k of the table replaced
abbrev pub with_row : Settings → ℕ → Row → Settings
with_row s k row = record s { table = record { base = s.table.base; rows = slice_set s.table.rows k row } }

-- the settings after the mode is set to v
abbrev pub with_mode : Settings → ℕ → Settings
with_mode s v = record s {
  two_byte = v % 2 == 1;
  delete_header = (v / 2) % 2 == 1;
  randomize = (v / 4) % 2 == 1;
  continue_group = (v / 8) % 2 == 1;
}

-- the settings after register r is set to v; one that tells the status sets nothing
abbrev pub with_value : Settings → Register → ℕ → Settings
with_value s Mode v = with_mode s v
with_value s RandomBase v = record s { random_base = v }
with_value s RandomRange v = record s { random_range = v }
with_value s Base v = record s { table = record { base = v; rows = s.table.rows } }
with_value s (Limit k) v = with_row s k (record { limit = v; select = (row_at s.table k).select })
with_value s (Select k) v = with_row s k (record { limit = (row_at s.table k).limit; select = select_of v })
with_value s r v = s
