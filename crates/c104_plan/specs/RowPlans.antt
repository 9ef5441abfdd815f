-- The plan by hand that has an image: the switches, terminals and wires of another plan, the ranges of the image, and
-- lines that set at each link what the image has there, as far as lines can say it.
use Rattle.c104_interval.specs.{Selection.reset_row, declared.intervals.{Row.Row, Select.{Select, TheVariants.{Discard, Link, Sink}}}}
use Rattle.{c104_interval.specs.declared.intervals.TheConstants.ROWS, c104_plan.specs.{PlanImage.Image, Plans.{Plan, PlanBase, PlanRandom}}}
use Rattle.c104_plan.specs.{Plans.{Terminal, host_port, is_continued, is_deleted, label_count, rows_of}, Ports.{Port, is_any_at}}
use Rattle.{c104_plan.specs.declared.plans.Shape.TheVariants.Hand, c104_regs.specs.Settings.reset_settings}
use Rattle.c104_regs.specs.declared.{registers.TheConstants.LINKS, settings.Settings.Settings}
use Rattle.std.specs.Prelude.{Bool, List, None, Option, Some, [], false, if◌then◌else◌, length, map, nat_le, nat_lt, not, slice_get}
use Rattle.std.specs.Prelude.{slice_index_or, suc, true, zero, ℕ, ◌&&◌, ◌++◌, ◌==◌, ◌∷◌, ◌≡◌}

-- terminals with these ranges in place of their own, as far as there are ranges
abbrev pub with_ranges : List (ℕ × ℕ) → List Terminal → List Terminal
with_ranges [] terminals = terminals
with_ranges (range ∷ ranges) [] = []
with_ranges (range ∷ ranges) (t ∷ terminals) = record t { first = range.0; count = range.1 } ∷ with_ranges ranges terminals

-- a plan line by line with these ranges, in which nothing is set
abbrev pub unset_plan : List (ℕ × ℕ) → Plan → Plan
unset_plan ranges plan = record plan {
  shape = Hand;
  terminals = with_ranges ranges plan.terminals;
  continues = [];
  deletes = [];
  bases = [];
  rows = [];
  randoms = [];
}

-- the plan with one more `continue` line of link l of switch s, where the link is to continue a group and isn't the first
abbrev pub continue_given : ℕ → ℕ → Bool → Plan → Plan
continue_given s l continues plan = record plan {
  continues =
      if continues && (nat_lt 0 l && not (is_continued plan (Port.Switch s l)))
      then plan.continues ++ Port.Switch s l ∷ []
      else plan.continues;
}

-- the plan with one more `base` line, where the base isn't 0
abbrev pub base_given : Port → ℕ → Plan → Plan
base_given p base plan = record plan {
  bases =
      if nat_lt 0 base && (nat_lt base label_count && not (is_any_at (λ (b : PlanBase). b.port) plan.bases p))
      then plan.bases ++ record { port = p; base = base } ∷ []
      else plan.bases;
}

-- whether a `row` line may select it
abbrev pub is_plan_select : Select → Bool
is_plan_select (Link l) = nat_lt l LINKS
is_plan_select Discard = true
is_plan_select Sink = true

-- the plan with one more `row` line, where one may say this row
abbrev pub row_given : Port → Row → Plan → Plan
row_given p row plan = record plan {
  rows =
      if nat_lt (length (rows_of p plan.rows)) ROWS && (nat_le row.limit label_count && is_plan_select row.select)
      then plan.rows ++ record { port = p; limit = row.limit; select = row.select } ∷ []
      else plan.rows;
}

-- whether a row is as after a reset
abbrev pub is_reset_row : Row → Bool
is_reset_row row = row.limit == 0 && is_sink row.select
  where
    is_sink : Select → Bool
    is_sink (Link l) = false
    is_sink Discard = false
    is_sink Sink = true

-- how many of these rows need lines: all up to the last that isn't as after a reset
abbrev pub used_rows : List Row → ℕ
used_rows [] = 0
used_rows (row ∷ rows) = if is_reset_row row && used_rows rows == 0 then 0 else suc (used_rows rows)

-- the plan with the lines of the first n rows
abbrev pub rows_given : Port → List Row → ℕ → Plan → Plan
rows_given p rows zero plan = plan
rows_given p rows (suc k) plan = row_given p (slice_index_or rows k reset_row) (rows_given p rows k plan)

-- the plan with one more `random` line, where there are random headers
abbrev pub random_given : Port → Bool → ℕ → ℕ → Plan → Plan
random_given p randomize base range plan = record plan {
  randoms =
      if randomize && ((nat_lt base label_count && nat_le range label_count) && not (is_any_at (λ (r : PlanRandom). r.port) plan.randoms p))
      then plan.randoms ++ record { port = p; base = base; range = range } ∷ []
      else plan.randoms;
}

-- the plan with the lines of link l of switch s, which is to have these settings
unfoldable pub link_given : ℕ → ℕ → Settings → Plan → Plan
link_given s l settings plan =
    random_given (Port.Switch s l) settings.randomize settings.random_base settings.random_range
    (rows_given (Port.Switch s l) settings.table.rows (used_rows settings.table.rows)
    (base_given (Port.Switch s l) settings.table.base
    (continue_given s l settings.continue_group plan)))

-- the plan with the lines of the first n links of switch s
abbrev pub links_given : ℕ → List Settings → ℕ → Plan → Plan
links_given s settings zero plan = plan
links_given s settings (suc l) plan = link_given s l (slice_index_or settings l reset_settings) (links_given s settings l plan)

-- what a switch of this number is to hold, and nothing where there is none
abbrev pub settings_in : List (List Settings) → ℕ → List Settings
settings_in all s = slice_index_or all s []

-- the plan with the lines of the first n switches
abbrev pub switches_given : List (List Settings) → ℕ → Plan → Plan
switches_given all zero plan = plan
switches_given all (suc s) plan = links_given s (settings_in all s) LINKS (switches_given all s plan)

-- whether headers are to be deleted at the link that a terminal is on
abbrev pub is_deleting : List (List Settings) → Terminal → Bool
is_deleting all t = (slice_index_or (settings_in all t.switch) t.link reset_settings).delete_header

-- the same of a terminal, if there is one
abbrev pub is_deleting_at : List (List Settings) → Option Terminal → Bool
is_deleting_at all None = false
is_deleting_at all (Some t) = is_deleting all t

-- the plan with one more `delete` line, where headers are to be deleted on the way to this terminal
abbrev pub delete_given : List (List Settings) → ℕ → Plan → Plan
delete_given all number plan = record plan {
  deletes =
      if is_deleting_at all (slice_get plan.terminals number) && not (is_deleted plan number)
      then plan.deletes ++ number ∷ []
      else plan.deletes;
}

-- the plan with the `delete` lines of the first n terminals
abbrev pub deletes_given : List (List Settings) → ℕ → Plan → Plan
deletes_given all zero plan = plan
deletes_given all (suc number) plan = delete_given all number (deletes_given all number plan)

-- the plan by hand that has this image, if one has
unfoldable pub row_plan : Plan → Image → Plan
row_plan plan image =
    deletes_given image.settings (length plan.terminals)
    (switches_given image.settings (length image.settings)
    (unset_plan image.ranges plan))

-- a plan of the same network as another: it has its headers and its buffers, its switches, its terminals with any
-- ranges, and its wires. What is set at the links is its own
pub record IsOfNetwork (plan : Plan) (other : Plan) : Type 0 where
  pub header : other.header ≡ plan.header
  pub cap : other.cap ≡ plan.cap
  pub switches : other.switches ≡ plan.switches
  pub names : map (λ (t : Terminal). t.name) other.terminals ≡ map (λ (t : Terminal). t.name) plan.terminals
  pub hosts : map host_port other.terminals ≡ map host_port plan.terminals
  pub wires : other.wires ≡ plan.wires

-- whether two bits are the same
abbrev pub is_bit : Bool → Bool → Bool
is_bit true b = b
is_bit false b = not b

-- whether two settings have the same bits
abbrev pub has_same_mode : Settings → Settings → Bool
has_same_mode s t =
    is_bit s.two_byte t.two_byte
    && (is_bit s.delete_header t.delete_header && (is_bit s.randomize t.randomize && is_bit s.continue_group t.continue_group))
