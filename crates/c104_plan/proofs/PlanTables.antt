-- The rows of an input, filled into its table one after another.
use Rattle.c104_interval.specs.{Selection.reset_row, declared.intervals.{Row.Row, Select.Select, Table.Table}}
use Rattle.c104_plan.specs.{PlanImage.{base_of, base_or_zero, padded_rows, table_of, table_row}, Plans.{IsPlan, IsPlanSelect, Plan}}
use Rattle.c104_plan.specs.{Plans.{PlanBase, PlanRow, is_base_of, is_row_of, rows_of}, Ports.{Port, is_any_at, is_of_switch, is_port}}
use Rattle.{c104_regs.{proofs.RangeNumbers.{IsSelectable, IsTableInRange-from}, specs.Ranges.IsTableInRange}, std.proofs.Common.{All, Bool}}
use Rattle.std.proofs.Common.{List, Some, [], ap, append-nil, append_assoc, arith, cond, false, filter, get_or, length, length-append, lit<}
use Rattle.std.proofs.Common.{map, refl, replicate, set, sym, take, true, ℕ, ◌++◌, ◌+◌, ◌-◌, ◌<◌, ◌||◌, ◌∙◌, ◌∷◌, ◌≡◌, ◌≤◌}
use Rattle.std.proofs.{Math.Seq.set-append_seam, lemmas.{Bool.{Decides.nat_tests, cases_lt}, List.Elements.{All-append, All-filter}}}
use Rattle.std.proofs.lemmas.List.{Elements.{All-head, All-map, All-replicate, All-tail, All-weaker, filter_more}, Sums.length-filter}
use Rattle.std.{proofs.lemmas.List.{Sums.sum_by-take-le, get_or_past, length-map, length-replicate, map-append, take_all}, specs.List.find}
use Rattle.std.specs.List.{list_any}

-- of the first `i` rows, those that are of this input
abbrev pub so_far : Port → List PlanRow → ℕ → List Row
so_far p rows i = map table_row (filter (is_row_of p) (take i rows))

module _ (p : Port) (rows : List PlanRow) (i : ℕ) (d : PlanRow) (inside : i < length rows) where
  pub so_far-next : is_row_of p (get_or rows i d) ≡ true → so_far p rows (i + 1) ≡ so_far p rows i ++ table_row (get_or rows i d) ∷ []
  so_far-next is =
      ap (map table_row) (filter_more (is_row_of p) rows i d inside ∙ ap (λ b. filter (is_row_of p) (take i rows) ++ cond b (get_or rows i d ∷ []) []) is)
      ∙ map-append table_row (filter (is_row_of p) (take i rows)) (get_or rows i d ∷ [])

  pub so_far-same : is_row_of p (get_or rows i d) ≡ false → so_far p rows (i + 1) ≡ so_far p rows i
  so_far-same is =
      ap (map table_row) (filter_more (is_row_of p) rows i d inside ∙ ap (λ b. filter (is_row_of p) (take i rows) ++ cond b (get_or rows i d ∷ []) []) is ∙ append-nil (filter (is_row_of p) (take i rows)))

  pub room : is_row_of p (get_or rows i d) ≡ true → length (filter (is_row_of p) rows) ≤ 36 → length (so_far p rows i) < 36
  room is few =
      let test : PlanRow → Bool = is_row_of p in
      let one_more : length (so_far p rows (i + 1)) ≡ length (so_far p rows i) + 1 = ap length (so_far-next is) ∙ length-append (so_far p rows i) (table_row (get_or rows i d) ∷ []) in
      let mapped : length (so_far p rows (i + 1)) ≡ length (filter test (take (i + 1) rows)) = length-map (filter test (take (i + 1) rows)) table_row in
      omega (arith, length-filter test (take (i + 1) rows), length-filter test rows, sum_by-take-le (λ x. cond (test x) 1 0) rows (i + 1))

-- one more row filled in
pub filled-next : (rows : List Row) (row : Row) → length rows < 36 → set (padded_rows rows) (length rows) row ≡ padded_rows (rows ++ row ∷ [])
filled-next rows row fits = search (arith, length-append, set, replicate, set-append_seam, append_assoc)

-- where a row of the input comes, there is room for it in the table
pub room_in : (plan : Plan) (p : Port) (rows : List PlanRow) (i : ℕ) (d : PlanRow) → IsPlan plan → rows_of p rows ≡ rows_of p plan.rows → i < length rows → true ≡ is_row_of p (get_or rows i d) → length (so_far p rows i) < 36
unfolding rows_of
room_in plan p rows i d kept same inside is = search (arith, room)

-- a table of this base and these rows, and a table with one row changed
abbrev pub of_rows : ℕ → List Row → Table
of_rows base rows = record { base = base; rows = rows }

abbrev pub with_row : Table → ℕ → Row → Table
with_row table k row = record { base = table.base; rows = set table.rows k row }

-- the table after a row of the input
pub table_next : (base : ℕ) (p : Port) (rows : List PlanRow) (i : ℕ) (d : PlanRow) (table : Table) (count : ℕ) → i < length rows → true ≡ is_row_of p (get_or rows i d) → length (so_far p rows i) < 36 → count ≡ length (so_far p rows i)
    → table ≡ of_rows base (padded_rows (so_far p rows i)) → with_row table count (table_row (get_or rows i d)) ≡ of_rows base (padded_rows (so_far p rows (i + 1)))
table_next base p rows i d table count inside is below counted filled_is = search (arith, set, filled-next, so_far-next)

pub count_next : (p : Port) (rows : List PlanRow) (i : ℕ) (d : PlanRow) (count : ℕ) → i < length rows → true ≡ is_row_of p (get_or rows i d) → count ≡ length (so_far p rows i) → count + 1 ≡ length (so_far p rows (i + 1))
count_next p rows i d count inside is counted =
    omega (arith, ap length (so_far-next p rows i d inside (sym is)), length-append (so_far p rows i) (table_row (get_or rows i d) ∷ []))

-- the table after the last row
pub table_last : (plan : Plan) (p : Port) (rows : List PlanRow) (i : ℕ) → rows_of p rows ≡ rows_of p plan.rows → length rows ≤ i → of_rows (base_of plan p) (padded_rows (so_far p rows i)) ≡ table_of plan p
unfolding table_of rows_of
table_last plan p rows i same all = search (arith, take_all)

-- the rows of an input are among those of its switch
row_among : (s l : ℕ) (q : Port) → is_port q (Port.Switch s l) ≡ true → is_of_switch s q ≡ true
row_among s l q is = search (arith, nat_tests)

rows_cons : (s l : ℕ) (row : PlanRow) (rows more : List PlanRow) (own of_switch : Bool) → own ≡ is_row_of (Port.Switch s l) row → of_switch ≡ is_of_switch s row.port → filter (is_row_of (Port.Switch s l)) more ≡ filter (is_row_of (Port.Switch s l)) rows
    → filter (is_row_of (Port.Switch s l)) (cond of_switch (row ∷ more) more) ≡ cond own (row ∷ filter (is_row_of (Port.Switch s l)) rows) (filter (is_row_of (Port.Switch s l)) rows)
rows_cons s l row rows more own of_switch is of same = search (arith, row_among)

pub rows_of_input : (s l : ℕ) (rows : List PlanRow) → rows_of (Port.Switch s l) (filter (λ row. is_of_switch s row.port) rows) ≡ rows_of (Port.Switch s l) rows
unfolding rows_of
rows_of_input s l [] = refl
rows_of_input s l (row ∷ rows) = rows_cons s l row rows (filter (λ row. is_of_switch s row.port) rows) _ _ refl refl (rows_of_input s l rows)

-- a row within the ranges of its registers
abbrev IsRowInRange : Row → Type 0
IsRowInRange row = (row.limit ≤ 65536) × IsSelectable row.select

selectable : (select : Select) → IsPlanSelect select → IsSelectable select
selectable select is = search arith

-- a row at any place, past the end a reset one
row_in_range : (rows : List Row) (k : ℕ) → All IsRowInRange rows → IsRowInRange (get_or rows k reset_row)
row_in_range rows k ranges = search (arith, cases_lt, get_or_past)

-- the rows of an input, filled up, are within the ranges
rows_in_range : (plan : Plan) (p : Port) → IsPlan plan → All IsRowInRange (padded_rows (map table_row (rows_of p plan.rows)))
unfolding rows_of
rows_in_range plan p kept =
    let own : List PlanRow = filter (is_row_of p) plan.rows in
    let planned : All (λ (r : PlanRow). IsRowInRange (table_row r)) own = All-filter (is_row_of p) (λ (r : PlanRow). IsRowInRange (table_row r)) plan.rows
    (All-weaker (λ (r : PlanRow). (r.limit ≤ 65536) × IsPlanSelect r.select) (λ (r : PlanRow). IsRowInRange (table_row r)) (λ (r : PlanRow) is. (is.0, selectable r.select is.1)) plan.rows kept.rows.ranges) in
    All-append IsRowInRange (map table_row own) (replicate (36 - length (map table_row own)) reset_row)
    (All-map IsRowInRange table_row own planned) (All-replicate IsRowInRange (36 - length (map table_row own)) reset_row (omega arith, tt))

-- a base that was found is one of the plan's
base_within : (bases : List PlanBase) (p : Port) → All (λ (b : PlanBase). b.base < 65536) bases → base_or_zero (find (is_base_of p) bases) < 65536
base_within [] p all = lit< tt
base_within (b ∷ bases) p all = by_test (is_base_of p b) (All-head (λ (c : PlanBase). c.base < 65536) b bases all) (base_within bases p (All-tail (λ (c : PlanBase). c.base < 65536) b bases all))
  where
    by_test : (here : Bool) → b.base < 65536 → base_or_zero (find (is_base_of p) bases) < 65536 → base_or_zero (cond here (Some b) (find (is_base_of p) bases)) < 65536
    by_test here first rest = search arith

pub table_in_range : (plan : Plan) (p : Port) → IsPlan plan → IsTableInRange (table_of plan p)
unfolding table_of rows_of base_of
table_in_range plan p kept =
    search (arith, length-map, length-append, replicate, length-replicate, IsTableInRange-from, base_within, row_in_range, rows_in_range)

-- and so are its continues
continues_cons : (s l : ℕ) (q : Port) (ports more : List Port) (own of_switch : Bool) → own ≡ is_port q (Port.Switch s l) → of_switch ≡ is_of_switch s q → list_any (λ p. is_port p (Port.Switch s l)) more ≡ list_any (λ p. is_port p (Port.Switch s l)) ports
    → list_any (λ p. is_port p (Port.Switch s l)) (cond of_switch (q ∷ more) more) ≡ (own || list_any (λ p. is_port p (Port.Switch s l)) ports)
continues_cons s l q ports more own of_switch is of same = search (arith, row_among)

pub continues_of_link : (s l : ℕ) (ports : List Port) → is_any_at (λ q. q) (filter (λ q. is_of_switch s q) ports) (Port.Switch s l) ≡ is_any_at (λ q. q) ports (Port.Switch s l)
unfolding is_any_at
continues_of_link s l [] = refl
continues_of_link s l (q ∷ ports) = continues_cons s l q ports (filter (λ q. is_of_switch s q) ports) _ _ refl refl (continues_of_link s l ports)
