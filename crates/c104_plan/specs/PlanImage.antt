-- Images: what is to be loaded into a network's switches, and the labels of its terminals.
use Rattle.c104_interval.specs.{Selection.reset_row, declared.intervals.{Row.Row, Table.Table, TheConstants.ROWS}}
use Rattle.c104_plan.specs.Plans.{IsRange, Plan, PlanBase, PlanRandom, PlanRow, Terminal, deletes_at, is_base_of, is_continued, rows_of}
use Rattle.{c104_plan.specs.{Ports.{Port, is_port}, Wiring.peer}, c104_regs.specs.{Ranges.IsInRange, Settings.plain_settings}}
use Rattle.c104_regs.specs.declared.{registers.TheConstants.LINKS, settings.Settings.Settings}
use Rattle.std.specs.{List.{find, range_with_len}, Prelude.{All, Bool, List, None, Option, Some, is_some, length, map, replicate, true, ℕ}}
use Rattle.std.specs.Prelude.{◌&&◌, ◌++◌, ◌-◌, ◌==◌, ◌≡◌}

-- a range for each terminal, by its first label and how many they are, and what is set at each link of
-- each switch
pub record Image : Type 0 where
  pub ranges : List (ℕ × ℕ)
  pub settings : List (List Settings)

-- a row of a plan, as a table has it
abbrev pub table_row : PlanRow → Row
table_row row = record { limit = row.limit; select = row.select }

-- rows, and then reset ones up to as many as a table has
abbrev pub padded_rows : List Row → List Row
padded_rows rows = rows ++ replicate (ROWS - length rows) reset_row

-- the base of an input: that of its line, or 0 where there is none
abbrev pub base_or_zero : Option PlanBase → ℕ
base_or_zero None = 0
base_or_zero (Some b) = b.base

unfoldable pub base_of : Plan → Port → ℕ
base_of plan p = base_or_zero (find (is_base_of p) plan.bases)

-- the table of an input: its base, its rows in order, and all other rows as after a reset
unfoldable pub table_of : Plan → Port → Table
table_of plan p = record { base = base_of plan p; rows = padded_rows (map table_row (rows_of p plan.rows)) }

-- whether a line of random headers is of this input
abbrev pub is_random_of : Port → PlanRandom → Bool
is_random_of p random = is_port random.port p

-- settings with the random headers of a line, if there is one
abbrev pub with_random : Option PlanRandom → Settings → Settings
with_random None s = s
with_random (Some random) s = record s {
  randomize = true;
  random_base = random.base;
  random_range = random.range;
}

-- what is set at a port of a switch, but for random headers: the table of its rows; two-byte headers where
-- the plan has them and the port is wired; headers are deleted where a terminal of the deletes is on it; it
-- continues a group where it is among the continues; and all else is as after a reset
abbrev pub plain_settings_of : Plan → Port → Settings
plain_settings_of plan p = record (plain_settings (table_of plan p)) {
  two_byte = plan.header == 2 && is_some (peer plan p);
  delete_header = deletes_at plan p;
  continue_group = is_continued plan p;
}

-- what is set at a port of a switch: all that, and the random headers of its line
unfoldable pub settings_of : Plan → Port → Settings
settings_of plan p =
    with_random (find (is_random_of p) plan.randoms) (plain_settings_of plan p)

-- what is set at the links of a switch
unfoldable pub switch_settings : Plan → ℕ → List Settings
switch_settings plan switch =
    map (λ link. settings_of plan (Port.Switch switch link)) (range_with_len 0 LINKS)

-- the range of a terminal
abbrev pub range_of : Terminal → ℕ × ℕ
range_of t = (t.first, t.count)

-- the image that a plan's own lines give
abbrev pub hand_image : Plan → Image
hand_image plan = record {
  ranges = map range_of plan.terminals;
  settings = map (switch_settings plan) (range_with_len 0 (length plan.switches));
}

-- an image that is for a plan like this one: it has a range for each terminal and settings for each switch
pub record Fits (image : Image) (plan : Plan) : Type 0 where
  pub ranges : length image.ranges ≡ length plan.terminals
  pub settings : length image.settings ≡ length plan.switches

-- settings for each link of a switch, whose numbers are within the ranges of their registers
abbrev pub AreSettings : List Settings → Type 0
AreSettings settings = (length settings ≡ LINKS) × All IsInRange settings

-- what the type of an image keeps: the settings of each switch, and ranges of labels
pub record IsImage (image : Image) : Type 0 where
  pub switches : All AreSettings image.settings
  pub ranges : All (λ range. IsRange range.0 range.1) image.ranges
