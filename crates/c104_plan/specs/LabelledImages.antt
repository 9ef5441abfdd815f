-- The image of a plan whose switches have tables that are given, as those of labels: the tables, the ranges of
-- the terminals, and all else as the plan's own lines say.
use Rattle.{c104_interval.specs.{Selection.reset_table, declared.intervals.Table.Table}, c104_plan.specs.PlanImage.{Image, settings_of}}
use Rattle.{c104_plan.specs.{Plans.Plan, Ports.Port, Wiring.peer}, c104_regs.specs.declared.registers.TheConstants.LINKS}
use Rattle.c104_regs.specs.declared.settings.Settings.{Settings}
use Rattle.std.specs.{List.range_with_len, Prelude.{Bool, List, false, if◌then◌else◌, is_some, length, map, slice_index_or, ℕ, ◌*◌, ◌+◌}}
use Rattle.std.specs.Prelude.{◌||◌}

-- what is set at a port of a switch that has this table: what the plan's own lines say, and the table where the
-- port has a wire
unfoldable pub labelled_settings : Plan → Table → Port → Settings
labelled_settings plan table p =
    if is_some (peer plan p) then record (settings_of plan p) { table = table } else settings_of plan p

-- what is set at the links of a switch that has this table
unfoldable pub labelled_switch : Plan → Table → ℕ → List Settings
labelled_switch plan table switch =
    map (λ link. labelled_settings plan table (Port.Switch switch link)) (range_with_len 0 LINKS)

-- the table of a switch among those of all switches
abbrev pub table_in : List Table → ℕ → Table
table_in tables switch = slice_index_or tables switch reset_table

-- settings of a link, which continues a group where this says so, or they do
abbrev pub with_group : Bool → Settings → Settings
with_group grouped s = record s { continue_group = grouped || s.continue_group }

-- what is set at the links of a switch that have these tables, and of which these continue groups, beside those that do so
-- by the plan's own lines
unfoldable pub port_labelled_switch : Plan → (ℕ → Table) → (ℕ → Bool) → ℕ → List Settings
port_labelled_switch plan tables groups switch =
    map (λ link. with_group (groups link) (labelled_settings plan (tables link) (Port.Switch switch link))) (range_with_len 0 LINKS)

-- the table of a link of a switch among those of all links, by switch and then by link
abbrev pub port_table : List Table → ℕ → ℕ → Table
port_table tables switch link = slice_index_or tables (switch * LINKS + link) reset_table

-- whether a link continues a group, among what is said of all links, by switch and then by link
abbrev pub port_grouped : List Bool → ℕ → ℕ → Bool
port_grouped groups switch link = slice_index_or groups (switch * LINKS + link) false

-- the image with these ranges, and at each port that has a wire its own table, by switch and link; and with these groups
-- beside those of the plan's own lines
abbrev pub port_labelled_image : Plan → List (ℕ × ℕ) → (ℕ → ℕ → Table) → (ℕ → ℕ → Bool) → Image
port_labelled_image plan ranges tables groups = record {
  ranges = ranges;
  settings = map (λ switch. port_labelled_switch plan (tables switch) (groups switch) switch) (range_with_len 0 (length plan.switches));
}

-- the image with these ranges, and these tables at the ports that have a wire
abbrev pub labelled_image : Plan → List (ℕ × ℕ) → List Table → Image
labelled_image plan ranges tables = record {
  ranges = ranges;
  settings = map (λ switch. labelled_switch plan (table_in tables switch) switch) (range_with_len 0 (length plan.switches));
}
