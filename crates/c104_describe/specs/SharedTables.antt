-- One table for the inputs of a switch: `base S n` and `row S limit select`, which name a switch and no link of it.
pub use Rattle.c104_describe.specs.declared.shared.{SharedBase.SharedBase, SharedRow.SharedRow}
use Rattle.{c104_describe.specs.declared.shared.Shared.Shared, c104_interval.specs.declared.intervals.{Select.Select, TheConstants.ROWS}}
use Rattle.c104_plan.specs.{PlanParts.has_some, Plans.{Plan, is_linked, label_count, rows_of}, Ports.is_any_at, RowPlans.is_plan_select}
use Rattle.{c104_plan.specs.declared.{plans.PlanBase.PlanBase, ports.Port.Port}, c104_regs.specs.declared.registers.TheConstants.LINKS}
use Rattle.std.specs.{List.list_any, Prelude.{Bool, List, [], filter, if◌then◌else◌, length, nat_le, nat_lt, not, suc, zero, ℕ, ◌&&◌, ◌++◌}}
use Rattle.std.specs.Prelude.{◌==◌, ◌||◌, ◌∷◌}

-- the lines that name a switch alone, in order
pub record SharedLines : Type 0 where
  pub bases : List SharedBase
  pub rows : List SharedRow

-- none
abbrev pub nothing_shared : SharedLines
nothing_shared = record { bases = []; rows = [] }

-- the lines as they are kept
abbrev pub lines_of : Shared → SharedLines
lines_of shared = record { bases = shared.bases.items; rows = shared.rows.items }

-- whether there are some
abbrev pub has_shared : SharedLines → Bool
has_shared shared = has_some shared.bases || has_some shared.rows

-- whether a row is one of this switch's table
abbrev pub is_shared_row_of : ℕ → SharedRow → Bool
is_shared_row_of switch row = row.switch == switch

-- whether a switch's table has a base
unfoldable pub has_shared_base : List SharedBase → ℕ → Bool
has_shared_base bases switch = list_any (λ (b : SharedBase). b.switch == switch) bases

-- how many rows a switch's table has
unfoldable pub shared_row_count : List SharedRow → ℕ → ℕ
shared_row_count rows switch = length (filter (is_shared_row_of switch) rows)

-- Written out

-- the plan with one more base of this input, where it may have one
abbrev pub base_joined : Port → ℕ → Plan → Plan
base_joined p base plan = record plan {
  bases =
      if nat_lt base label_count && not (is_any_at (λ (b : PlanBase). b.port) plan.bases p)
      then plan.bases ++ record { port = p; base = base } ∷ []
      else plan.bases;
}

-- the plan with one more row of this input, where it may have one
abbrev pub row_joined : Port → ℕ → Select → Plan → Plan
row_joined p limit select plan = record plan {
  rows =
      if nat_lt (length (rows_of p plan.rows)) ROWS && (nat_le limit label_count && is_plan_select select)
      then plan.rows ++ record { port = p; limit = limit; select = select } ∷ []
      else plan.rows;
}

-- the same with the base of the switch's table, if it has one
abbrev pub bases_joined : ℕ → Port → List SharedBase → Plan → Plan
bases_joined switch p [] plan = plan
bases_joined switch p (b ∷ bases) plan =
    bases_joined switch p bases (if b.switch == switch then base_joined p b.base plan else plan)

-- the same with the rows of the switch's table
abbrev pub rows_joined : ℕ → Port → List SharedRow → Plan → Plan
rows_joined switch p [] plan = plan
rows_joined switch p (r ∷ rows) plan =
    rows_joined switch p rows (if is_shared_row_of switch r then row_joined p r.limit r.select plan else plan)

-- whether an input has its switch's table: it has a terminal or a wire, and no row of its own
abbrev pub is_sharing : Plan → Port → Bool
is_sharing plan p = (length (rows_of p plan.rows) == 0) && is_linked plan p

-- the plan in which link l of switch s has its switch's table where it is to: a base of its own stays
unfoldable pub table_joined : SharedLines → ℕ → ℕ → Plan → Plan
table_joined shared s l plan =
    if is_sharing plan (Port.Switch s l)
    then rows_joined s (Port.Switch s l) shared.rows (bases_joined s (Port.Switch s l) shared.bases plan)
    else plan

-- the same of the first n links of switch s
abbrev pub tables_joined : SharedLines → ℕ → ℕ → Plan → Plan
tables_joined shared s zero plan = plan
tables_joined shared s (suc l) plan = table_joined shared s l (tables_joined shared s l plan)

-- the same of the first n switches
abbrev pub switches_joined : SharedLines → ℕ → Plan → Plan
switches_joined shared zero plan = plan
switches_joined shared (suc s) plan = tables_joined shared s LINKS (switches_joined shared s plan)

-- the plan in which these lines are written out behind all others, input by input: the base, and then the rows
abbrev pub shared_out : SharedLines → Plan → Plan
shared_out shared plan = if has_shared shared then switches_joined shared (length plan.switches) plan else plan
