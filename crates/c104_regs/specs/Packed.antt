-- The settings of a link packed into words, two numbers in each: the lower one below a power of two, the
-- higher one above it.
--     packed s      the words of these settings
--     unpacked p      the settings that these words stand for
use Rattle.{c104_interval.specs.declared.intervals.{Row.Row, Select.{Select, TheVariants.Sink}}, c104_regs.specs.Settings.Settings}
use Rattle.c104_regs.specs.{Values.{mode_of, select_code, select_of, with_mode}, declared.packed.PackedSettings.TheInside.Inside}
use Rattle.c104_regs.specs.declared.{packed.TheConstants.{BASES, LIMITS}, values.TheConstants.SINK_CODE}
use Rattle.std.specs.Prelude.{All, List, [], false, if◌then◌else◌, map, nat_lt, ℕ, ◌%◌, ◌*◌, ◌+◌, ◌/◌, ◌<◌, ◌∷◌, ◌≡◌, ◌≤◌}

-- the word of a row: its limit, and above it the number of what it selects
abbrev pub word_of_row : Row → ℕ
word_of_row r = r.limit + LIMITS * select_code r.select

-- the row of a word
abbrev pub row_of_word : ℕ → Row
row_of_word w = record { limit = w % LIMITS; select = select_of (w / LIMITS) }

-- the words of a link's settings: the table's base and that of the random headers, the range of these and the
-- mode, and the rows
abbrev pub packed : Settings → Inside
packed s = record {
  bases = s.table.base + BASES * s.random_base;
  modes = s.random_range + LIMITS * mode_of s;
  rows = map word_of_row s.table.rows;
}

-- the settings of words, with a mode of no bits
abbrev pub without_mode : Inside → Settings
without_mode p = record {
  two_byte = false;
  delete_header = false;
  randomize = false;
  continue_group = false;
  random_base = p.bases / BASES;
  random_range = p.modes % LIMITS;
  table = record { base = p.bases % BASES; rows = map row_of_word p.rows };
}

-- the settings of words
abbrev pub unpacked : Inside → Settings
unpacked p = with_mode (without_mode p) (p.modes / LIMITS)

-- what the first of these rows selects whose limit is above header h, and Sink where none is
abbrev pub first_above : List Row → ℕ → Select
first_above [] h = Sink
first_above (r ∷ rs) h = if nat_lt h r.limit then r.select else first_above rs h

-- the higher number of a row's word is that of something which a row can select
abbrev pub IsRowWord : ℕ → Type 0
IsRowWord w = select_code (select_of (w / LIMITS)) ≡ w / LIMITS

-- the words are those of some settings: the mode has four bits
pub record ArePacked (p : Inside) : Type 0 where
  pub mode : p.modes / LIMITS < 16
  pub rows : All IsRowWord p.rows

-- a row that a word can hold
pub record IsPackable (r : Row) : Type 0 where
  pub limit : r.limit < LIMITS
  pub code : select_code r.select ≤ SINK_CODE
  pub decoded : select_of (select_code r.select) ≡ r.select
