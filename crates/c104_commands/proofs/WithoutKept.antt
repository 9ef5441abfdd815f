-- The plan without a wire keeps what every plan does.
use Rattle.c104_commands.proofs.ListLemmas.{distinct_filtered, distinct_front, distinct_left, distinct_rest, free_before, none_before}
use Rattle.c104_commands.{proofs.RowLemmas.{both_ports, fewer_before, same_count, same_limit, selects_past}, specs.WithoutWires.joins}
use Rattle.{c104_commands.specs.WithoutWires.{row_past, rows_past, without, without_wire}, c104_plan.specs.Distinctness.AreDistinct}
use Rattle.c104_plan.specs.Plans.{AreContinues, AreRows, IsLaterPort, IsPlan, IsPlanSelect, IsPlanWire, Plan, host_port, label_count}
use Rattle.c104_plan.specs.{Plans.rows_of, Ports.{IsSwitchPort, is_port}, declared.plans.{PlanRow.PlanRow, Terminal.Terminal}}
use Rattle.{c104_plan.specs.declared.ports.{Port.Port, Wire.Wire}, std.proofs.Common.{All, List, Some, ap, arith, bytes_eq, drop, false}}
use Rattle.std.proofs.Common.{get_or, length, map, not, refl, slice_get, subst, suc, sym, take, ℕ, ◌<◌, ◌||◌, ◌∙◌, ◌≡◌, ◌≤◌}
use Rattle.std.proofs.lemmas.List.Elements.{All-append, All-drop, All-filter, All-get_or, All-map, All-take, All-weaker}
use Rattle.std.{proofs.lemmas.Option.slice_get-get_or, specs.List.list_any}

module _ (plan : Plan) (kept : IsPlan plan) (k : ℕ) (w : Wire) (here : IsSwitchPort (length plan.switches) w.here) (there : IsSwitchPort (length plan.switches) w.there) where
  ranged : (row : PlanRow) → (row.limit ≤ label_count) × IsPlanSelect row.select → ((row_past plan w.there (row_past plan w.here row)).limit ≤ label_count) × IsPlanSelect (row_past plan w.there (row_past plan w.here row)).select
  ranged row is =
      let one : IsPlanSelect (row_past plan w.here row).select = selects_past plan (length plan.switches) w.here row here is.1 in
      (subst (λ n. n ≤ label_count) (sym (same_limit plan w.there (row_past plan w.here row) ∙ same_limit plan w.here row)) is.0, selects_past plan (length plan.switches) w.there (row_past plan w.here row) there one)

  rows_kept : AreRows (length plan.switches) (rows_past plan w plan.rows)
  rows_kept = record {
    of_inputs = All-map (λ (r : PlanRow). IsSwitchPort (length plan.switches) r.port) (λ row. row_past plan w.there (row_past plan w.here row)) plan.rows
        (All-weaker (λ (r : PlanRow). IsSwitchPort (length plan.switches) r.port) (λ (r : PlanRow). IsSwitchPort (length plan.switches) (row_past plan w.there (row_past plan w.here r)).port)
        (λ r is. subst (IsSwitchPort (length plan.switches)) (sym (both_ports plan w r)) is) plan.rows kept.rows.of_inputs);
    ranges = All-map (λ (r : PlanRow). (r.limit ≤ label_count) × IsPlanSelect r.select) (λ row. row_past plan w.there (row_past plan w.here row)) plan.rows
        (All-weaker (λ (r : PlanRow). (r.limit ≤ label_count) × IsPlanSelect r.select) (λ (r : PlanRow). ((row_past plan w.there (row_past plan w.here r)).limit ≤ label_count) × IsPlanSelect (row_past plan w.there (row_past plan w.here r)).select)
        ranged plan.rows kept.rows.ranges);
    few = λ p. subst (λ n. n ≤ 36) (sym (same_count (λ row. row_past plan w.there (row_past plan w.here row)) (both_ports plan w) p plan.rows)) (kept.rows.few p);
  }

  continues_kept : AreContinues (length plan.switches) (without plan k w).continues
  continues_kept = record {
    later = All-filter (λ p. not (joins w.here p || joins w.there p)) (IsLaterPort (length plan.switches)) plan.continues kept.continues.later;
    once = distinct_filtered is_port (λ p. p) (λ p. not (joins w.here p || joins w.there p)) plan.continues kept.continues.once;
  }

  pub without_kept : IsPlan (without plan k w)
  without_kept = record {
    header = kept.header;
    cap = kept.cap;
    shape = tt;
    few_switches = kept.few_switches;
    names = kept.names;
    terminals = kept.terminals;
    wires = All-append (IsPlanWire (length plan.switches)) (take k plan.wires) (drop (suc k) plan.wires) (All-take (IsPlanWire (length plan.switches)) k plan.wires kept.wires) (All-drop (IsPlanWire (length plan.switches)) (suc k) plan.wires kept.wires);
    links = distinct_left (map host_port plan.terminals) plan.wires k kept.links;
    continues = continues_kept;
    deletes = kept.deletes;
    bases = kept.bases;
    rows = rows_kept;
    randoms = kept.randoms;
  }

-- the wire of a number
pub wire_known : (plan : Plan) (k : ℕ) (d : Wire) → IsPlan plan → k < length plan.wires → (slice_get plan.wires k ≡ Some (get_or plan.wires k d)) × IsPlanWire (length plan.switches) (get_or plan.wires k d)
wire_known plan k d kept lt = (slice_get-get_or plan.wires k d lt, All-get_or (IsPlanWire (length plan.switches)) plan.wires k d lt kept.wires)

pub without_known : (plan : Plan) (k : ℕ) (w : Wire) → slice_get plan.wires k ≡ Some w → without_wire plan k ≡ without plan k w
unfolding without_wire
without_known plan k w is = rw is refl

-- the names of the switches and the terminals so far are others'
pub switch_free : (plan : Plan) (so_far items : List (List ℕ)) (i : ℕ) (name d : List ℕ) → IsPlan plan → items ≡ plan.switches → so_far ≡ take i items → i < length items → name ≡ get_or items i d → list_any (λ other. bytes_eq other name) so_far ≡ false
switch_free plan so_far items i name d kept are some lt is =
    rw (some, is) (none_before bytes_eq items i d lt (subst (AreDistinct bytes_eq) (sym are) (distinct_front bytes_eq plan.switches (map (λ (t : Terminal). t.name) plan.terminals) kept.names.differ)))

pub terminal_free : (plan : Plan) (so_far items : List Terminal) (i : ℕ) (own d : Terminal) → IsPlan plan → items ≡ plan.terminals → so_far ≡ take i items → i < length items → own ≡ get_or items i d → list_any (λ (t : Terminal). bytes_eq t.name own.name) so_far ≡ false
terminal_free plan so_far items i own d kept are some lt is =
    rw (some, is) (free_before bytes_eq (λ (t : Terminal). t.name) items i d lt (subst (λ (ts : List Terminal). AreDistinct bytes_eq (map (λ (t : Terminal). t.name) ts)) (sym are) (distinct_rest bytes_eq plan.switches (map (λ (t : Terminal). t.name) plan.terminals) kept.names.differ)))

-- there is room for a row after those before it
pub has_room : (plan : Plan) (w : Wire) (so_far items : List PlanRow) (i : ℕ) (row d : PlanRow) → IsPlan plan → items ≡ plan.rows → so_far ≡ rows_past plan w (take i items) → i < length items → row ≡ row_past plan w.there (row_past plan w.here (get_or items i d)) → length (rows_of row.port so_far) < 36
has_room plan w so_far items i row d kept are some lt is =
    let past : PlanRow → PlanRow = λ row. row_past plan w.there (row_past plan w.here row) in
    let own : PlanRow = get_or items i d in
    let port : row.port ≡ own.port = ap (λ (r : PlanRow). r.port) is ∙ both_ports plan w own in
    let before : length (rows_of own.port (take i items)) < length (rows_of own.port items) = fewer_before d items i lt in
    let few : length (rows_of own.port items) ≤ 36 = subst (λ rows. length (rows_of own.port rows) ≤ 36) (sym are) (kept.rows.few own.port) in
    let count : length (rows_of own.port (rows_past plan w (take i items))) ≡ length (rows_of own.port (take i items)) = same_count past (both_ports plan w) own.port (take i items) in
    rw (port, some) (omega (arith, before, few, count))
