-- Rows of which links are taken out of their groups: they are of the same inputs, and select links of the switch.
use Rattle.c104_commands.specs.WithoutWires.{other_link, row_past, rows_past, select_past}
use Rattle.c104_interval.specs.declared.intervals.Select.{Select, TheVariants.{Discard, Link, Sink}}
use Rattle.c104_plan.{proofs.PortLemmas.is_port-refl, specs.Plans.{IsPlanSelect, Plan, is_continued, is_row_of, rows_of}}
use Rattle.c104_plan.specs.{Ports.{IsSwitchPort, is_of_switch, is_port}, declared.{plans.PlanRow.PlanRow, ports.{Port.Port, Wire.Wire}}}
use Rattle.std.proofs.Common.{Bool, List, [], ap, arith, cond, false, filter, get_or, if◌then◌else◌, length, map, nat_lt, refl, subst, suc}
use Rattle.std.proofs.{Common.{sym, take, true, zero, ℕ, ◌&&◌, ◌+◌, ◌-◌, ◌<◌, ◌==◌, ◌∙◌, ◌∷◌, ◌≡◌, ◌≤◌}, lemmas.Bool.{and_parts, ltb-true}}

pub same_port : (plan : Plan) (p : Port) (row : PlanRow) → (row_past plan p row).port ≡ row.port
same_port plan p row = search arith

pub same_limit : (plan : Plan) (p : Port) (row : PlanRow) → (row_past plan p row).limit ≡ row.limit
same_limit plan p row = search arith

other_link_below : (plan : Plan) (s l : ℕ) → l < 32 → other_link plan s l < 32
other_link_below plan s l lt = search arith

pub selects_past : (plan : Plan) (n : ℕ) (p : Port) (row : PlanRow) → IsSwitchPort n p → IsPlanSelect row.select → IsPlanSelect (row_past plan p row).select
selects_past plan n p row is selects = search (arith, other_link_below)

-- as many rows of each input
module _ (f : PlanRow → PlanRow) (same : (row : PlanRow) → (f row).port ≡ row.port) (p : Port) where
  count_by : (row : PlanRow) (rows : List PlanRow) (t u : Bool) → u ≡ t → length (filter (is_row_of p) (map f rows)) ≡ length (filter (is_row_of p) rows)
      → length (cond u (f row ∷ filter (is_row_of p) (map f rows)) (filter (is_row_of p) (map f rows))) ≡ length (cond t (row ∷ filter (is_row_of p) rows) (filter (is_row_of p) rows))
  count_by row rows t u is rest = search arith

  pub same_count : (rows : List PlanRow) → length (rows_of p (map f rows)) ≡ length (rows_of p rows)
  unfolding rows_of
  same_count [] = refl
  same_count (row ∷ rows) = count_by row rows (is_row_of p row) (is_row_of p (f row)) (ap (λ q. is_port q p) (same row)) (same_count rows)

-- there is room for each row of a list that has few of each input
module _ (d : PlanRow) where
  before_by : (n m : ℕ) (rows front : List PlanRow) (row : PlanRow) (t : Bool) → length front < length rows → length (cond t (row ∷ front) front) < length (cond t (row ∷ rows) rows)
  before_by n m rows front row true lt = search arith
  before_by n m rows front row false lt = lt

  pub fewer_before : (rows : List PlanRow) (i : ℕ) → i < length rows → length (rows_of (get_or rows i d).port (take i rows)) < length (rows_of (get_or rows i d).port rows)
  unfolding rows_of
  fewer_before [] i lt = search arith
  fewer_before (row ∷ rows) zero lt = search (arith, is_port-refl)
  fewer_before (row ∷ rows) (suc i) lt =
      before_by 0 0 _ _ row (is_row_of (get_or rows i d).port row) (fewer_before rows i (omega (arith, lt)))

-- both ends
pub both_ports : (plan : Plan) (w : Wire) (row : PlanRow) → (row_past plan w.there (row_past plan w.here row)).port ≡ row.port
both_ports plan w row = same_port plan w.there (row_past plan w.here row) ∙ same_port plan w.here row
