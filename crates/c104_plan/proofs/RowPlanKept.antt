-- The plan by hand that has an image keeps what every plan does, and is of the same network as the plan that it is made of.
use Rattle.{c104_interval.specs.declared.intervals.{Row.Row, Select.Select}, c104_plan.proofs.PlanKept.{with_base, with_continue}}
use Rattle.c104_plan.proofs.{PlanKept.{with_delete, with_random, with_row}, RowPlanSteps.{hosts-with_ranges, length-with_ranges}}
use Rattle.c104_plan.{proofs.RowPlanSteps.names-with_ranges, specs.{Distinctness.AreDistinct, PlanImage.{Fits, Image, IsImage}}}
use Rattle.c104_plan.specs.Plans.{AreNames, IsPlan, IsPlanSelect, IsRange, Plan, PlanBase, PlanRandom, Terminal, host_port, is_continued}
use Rattle.c104_plan.specs.{Plans.{is_deleted, label_count, rows_of}, Ports.{IsSwitchPort, Port, both_ends, is_any_at, is_port}}
use Rattle.c104_plan.specs.RowPlans.{IsOfNetwork, base_given, continue_given, delete_given, deletes_given, is_deleting_at, is_plan_select}
use Rattle.c104_plan.specs.RowPlans.{link_given, links_given, random_given, row_given, row_plan, rows_given, settings_in, switches_given}
use Rattle.c104_plan.specs.{RowPlans.{unset_plan, used_rows, with_ranges}, declared.plans.Shape.TheVariants.Hand}
use Rattle.{c104_regs.specs.declared.settings.Settings.Settings, std.proofs.Common.{All, Bool, List, [], ap, arith, false, if◌then◌else◌}}
use Rattle.std.proofs.Common.{length, nat_le, nat_lt, not, refl, slice_get, subst, suc, sym, true, zero, ℕ, ◌&&◌, ◌++◌, ◌<◌, ◌∷◌, ◌≡◌, ◌≤◌}
use Rattle.std.proofs.lemmas.{Bool.{and_parts, leb-true, ltb-true, not-true}, List.Elements.{All-cons, All-head, All-nil, All-tail}}

-- a plan line by line with more lines that set something at links
pub record IsSetFurther (plan next : Plan) : Type 0 where
  pub kept : IsPlan next
  pub shape : next.shape ≡ Hand
  pub header : next.header ≡ plan.header
  pub cap : next.cap ≡ plan.cap
  pub switches : next.switches ≡ plan.switches
  pub terminals : next.terminals ≡ plan.terminals
  pub wires : next.wires ≡ plan.wires

pub as_it_was : (plan : Plan) → IsPlan plan → plan.shape ≡ Hand → IsSetFurther plan plan
as_it_was plan kept hand = record { kept = kept; shape = hand; header = refl; cap = refl; switches = refl; terminals = refl; wires = refl }

pub and_then : (plan next last : Plan) → IsSetFurther plan next → IsSetFurther next last → IsSetFurther plan last
and_then plan next last one two = search arith

selects : (select : Select) → is_plan_select select ≡ true → IsPlanSelect select
selects select is = search (arith, ltb-true)

-- one more line
module _ (plan : Plan) (kept : IsPlan plan) (hand : plan.shape ≡ Hand) where
  continue_kept : (s l : ℕ) (continues : Bool) → IsSwitchPort (length plan.switches) (Port.Switch s l) → IsSetFurther plan (continue_given s l continues plan)
  continue_kept s l continues of_switch = by_test (continues && (nat_lt 0 l && not (is_continued plan (Port.Switch s l)))) refl
    where
      by_test : (due : Bool) → (continues && (nat_lt 0 l && not (is_continued plan (Port.Switch s l)))) ≡ due → IsSetFurther plan (record plan { continues = if due then plan.continues ++ Port.Switch s l ∷ [] else plan.continues })
      by_test true is =
          let parts = and_parts continues (nat_lt 0 l && not (is_continued plan (Port.Switch s l))) is in
          let later = and_parts (nat_lt 0 l) (not (is_continued plan (Port.Switch s l))) parts.1 in
          record { kept = with_continue plan kept (Port.Switch s l) hand (of_switch.0, ltb-true _ _ later.0, of_switch.1) (not-true _ later.1); shape = hand; header = refl; cap = refl; switches = refl; terminals = refl; wires = refl }
      by_test false is = as_it_was plan kept hand

  base_kept : (p : Port) (base : ℕ) → IsSwitchPort (length plan.switches) p → IsSetFurther plan (base_given p base plan)
  base_kept p base of_switch = by_test (nat_lt 0 base && (nat_lt base label_count && not (is_any_at (λ (b : PlanBase). b.port) plan.bases p))) refl
    where
      by_test : (due : Bool) → (nat_lt 0 base && (nat_lt base label_count && not (is_any_at (λ (b : PlanBase). b.port) plan.bases p))) ≡ due
          → IsSetFurther plan (record plan { bases = if due then plan.bases ++ record { port = p; base = base } ∷ [] else plan.bases })
      by_test true is =
          let parts = and_parts (nat_lt 0 base) (nat_lt base label_count && not (is_any_at (λ (b : PlanBase). b.port) plan.bases p)) is in
          let within = and_parts (nat_lt base label_count) (not (is_any_at (λ (b : PlanBase). b.port) plan.bases p)) parts.1 in
          record { kept = with_base plan kept (record { port = p; base = base }) hand of_switch (ltb-true _ _ within.0) (not-true _ within.1); shape = hand; header = refl; cap = refl; switches = refl; terminals = refl; wires = refl }
      by_test false is = as_it_was plan kept hand

  row_kept : (p : Port) (row : Row) → IsSwitchPort (length plan.switches) p → IsSetFurther plan (row_given p row plan)
  row_kept p row of_switch = by_test (nat_lt (length (rows_of p plan.rows)) 36 && (nat_le row.limit label_count && is_plan_select row.select)) refl
    where
      by_test : (due : Bool) → (nat_lt (length (rows_of p plan.rows)) 36 && (nat_le row.limit label_count && is_plan_select row.select)) ≡ due
          → IsSetFurther plan (record plan { rows = if due then plan.rows ++ record { port = p; limit = row.limit; select = row.select } ∷ [] else plan.rows })
      by_test true is =
          let parts = and_parts (nat_lt (length (rows_of p plan.rows)) 36) (nat_le row.limit label_count && is_plan_select row.select) is in
          let within = and_parts (nat_le row.limit label_count) (is_plan_select row.select) parts.1 in
          record { kept = with_row plan kept (record { port = p; limit = row.limit; select = row.select }) hand of_switch (leb-true _ _ within.0) (selects row.select within.1) (ltb-true _ _ parts.0); shape = hand; header = refl; cap = refl; switches = refl; terminals = refl; wires = refl }
      by_test false is = as_it_was plan kept hand

  random_kept : (p : Port) (randomize : Bool) (base range : ℕ) → IsSwitchPort (length plan.switches) p → IsSetFurther plan (random_given p randomize base range plan)
  random_kept p randomize base range of_switch = by_test (randomize && ((nat_lt base label_count && nat_le range label_count) && not (is_any_at (λ (r : PlanRandom). r.port) plan.randoms p))) refl
    where
      by_test : (due : Bool) → (randomize && ((nat_lt base label_count && nat_le range label_count) && not (is_any_at (λ (r : PlanRandom). r.port) plan.randoms p))) ≡ due
          → IsSetFurther plan (record plan { randoms = if due then plan.randoms ++ record { port = p; base = base; range = range } ∷ [] else plan.randoms })
      by_test true is =
          let parts = and_parts randomize ((nat_lt base label_count && nat_le range label_count) && not (is_any_at (λ (r : PlanRandom). r.port) plan.randoms p)) is in
          let free = and_parts (nat_lt base label_count && nat_le range label_count) (not (is_any_at (λ (r : PlanRandom). r.port) plan.randoms p)) parts.1 in
          let within = and_parts (nat_lt base label_count) (nat_le range label_count) free.0 in
          record { kept = with_random plan kept (record { port = p; base = base; range = range }) hand of_switch (ltb-true _ _ within.0) (leb-true _ _ within.1) (not-true _ free.1); shape = hand; header = refl; cap = refl; switches = refl; terminals = refl; wires = refl }
      by_test false is = as_it_was plan kept hand

  delete_kept : (all : List (List Settings)) (number : ℕ) → number < length plan.terminals → IsSetFurther plan (delete_given all number plan)
  delete_kept all number inside = by_test (is_deleting_at all (slice_get plan.terminals number) && not (is_deleted plan number)) refl
    where
      by_test : (due : Bool) → (is_deleting_at all (slice_get plan.terminals number) && not (is_deleted plan number)) ≡ due → IsSetFurther plan (record plan { deletes = if due then plan.deletes ++ number ∷ [] else plan.deletes })
      by_test true is =
          let parts = and_parts (is_deleting_at all (slice_get plan.terminals number)) (not (is_deleted plan number)) is in
          record { kept = with_delete plan kept number inside (not-true _ parts.1); shape = hand; header = refl; cap = refl; switches = refl; terminals = refl; wires = refl }
      by_test false is = as_it_was plan kept hand

-- a link of a switch of a plan is one of the plan with more lines
of_next : (plan next : Plan) (s l : ℕ) → IsSetFurther plan next → IsSwitchPort (length plan.switches) (Port.Switch s l) → IsSwitchPort (length next.switches) (Port.Switch s l)
of_next plan next s l is of_switch = (omega (arith, ap length is.switches, of_switch.0), of_switch.1)

-- the lines of rows
rows_kept : (plan : Plan) → IsPlan plan → plan.shape ≡ Hand → (s l : ℕ) (rows : List Row) (k : ℕ) → IsSwitchPort (length plan.switches) (Port.Switch s l) → IsSetFurther plan (rows_given (Port.Switch s l) rows k plan)
rows_kept plan kept hand s l rows zero of_switch = as_it_was plan kept hand
rows_kept plan kept hand s l rows (suc k) of_switch =
    search (arith, and_then, row_kept, of_next, rows_kept plan kept hand s l rows k of_switch)

-- the lines of a link
pub link_kept : (plan : Plan) → IsPlan plan → plan.shape ≡ Hand → (s l : ℕ) (settings : Settings) → IsSwitchPort (length plan.switches) (Port.Switch s l) → IsSetFurther plan (link_given s l settings plan)
unfolding link_given
link_kept plan kept hand s l settings of_switch =
    let p : Port = Port.Switch s l in
    let one : Plan = continue_given s l settings.continue_group plan in
    let two : Plan = base_given p settings.table.base one in
    let three : Plan = rows_given p settings.table.rows (used_rows settings.table.rows) two in
    let to_one : IsSetFurther plan one = continue_kept plan kept hand s l settings.continue_group of_switch in
    let to_two : IsSetFurther plan two = and_then plan one two to_one (base_kept one to_one.kept to_one.shape p settings.table.base (of_next plan one s l to_one of_switch)) in
    let to_three : IsSetFurther plan three = and_then plan two three to_two (rows_kept two to_two.kept to_two.shape s l settings.table.rows (used_rows settings.table.rows) (of_next plan two s l to_two of_switch)) in
    and_then plan three _ to_three (random_kept three to_three.kept to_three.shape p settings.randomize settings.random_base settings.random_range (of_next plan three s l to_three of_switch))

-- the lines of links, of which there are 32
pub links_kept : (plan : Plan) → IsPlan plan → plan.shape ≡ Hand → (s : ℕ) (settings : List Settings) (links : ℕ) → s < length plan.switches → links ≤ 32 → IsSetFurther plan (links_given s settings links plan)
links_kept plan kept hand s settings zero inside few = as_it_was plan kept hand
links_kept plan kept hand s settings (suc l) inside few =
    search (arith, and_then, link_kept, links_kept plan kept hand s settings l inside (omega (arith, few)))

-- the lines of switches
pub switches_kept : (plan : Plan) → IsPlan plan → plan.shape ≡ Hand → (all : List (List Settings)) (count : ℕ) → count ≤ length plan.switches → IsSetFurther plan (switches_given all count plan)
switches_kept plan kept hand all zero few = as_it_was plan kept hand
switches_kept plan kept hand all (suc s) few =
    let now : Plan = switches_given all s plan in
    let before : IsSetFurther plan now = switches_kept plan kept hand all s (omega (arith, few)) in
    and_then plan now _ before (links_kept now before.kept before.shape s (settings_in all s) 32 (omega (arith, ap length before.switches, few)) (omega arith))

-- the lines of terminals
pub deletes_kept : (plan : Plan) → IsPlan plan → plan.shape ≡ Hand → (all : List (List Settings)) (count : ℕ) → count ≤ length plan.terminals → IsSetFurther plan (deletes_given all count plan)
deletes_kept plan kept hand all zero few = as_it_was plan kept hand
deletes_kept plan kept hand all (suc number) few =
    let now : Plan = deletes_given all number plan in
    let before : IsSetFurther plan now = deletes_kept plan kept hand all number (omega (arith, few)) in
    and_then plan now _ before (delete_kept now before.kept before.shape all number (omega (arith, ap length before.terminals, few)))

-- what all of the hosts have, those of terminals with other ranges have
hosted : (P : Port → Type 0) (ranges : List (ℕ × ℕ)) (terminals : List Terminal) → All (λ (t : Terminal). P (host_port t)) terminals → All (λ (t : Terminal). P (host_port t)) (with_ranges ranges terminals)
hosted P [] terminals all = all
hosted P (range ∷ ranges) [] all = all
hosted P (range ∷ ranges) (t ∷ terminals) all =
    let Hosted : Terminal → Type 0 = λ t. P (host_port t) in
    All-cons Hosted (record t { first = range.0; count = range.1 }) (with_ranges ranges terminals) (All-head Hosted t terminals all) (hosted P ranges terminals (All-tail Hosted t terminals all))

-- the ranges are ranges
ranged : (ranges : List (ℕ × ℕ)) (terminals : List Terminal) → All (λ (range : ℕ × ℕ). IsRange range.0 range.1) ranges → All (λ (t : Terminal). IsRange t.first t.count) terminals → All (λ (t : Terminal). IsRange t.first t.count) (with_ranges ranges terminals)
ranged [] terminals all own = own
ranged (range ∷ ranges) [] all own = own
ranged (range ∷ ranges) (t ∷ terminals) all own =
    let Range : ℕ × ℕ → Type 0 = λ range. IsRange range.0 range.1 in
    let Ranged : Terminal → Type 0 = λ t. IsRange t.first t.count in
    All-cons Ranged (record t { first = range.0; count = range.1 }) (with_ranges ranges terminals) (All-head Range range ranges all) (ranged ranges terminals (All-tail Range range ranges all) (All-tail Ranged t terminals own))

-- with nothing set
pub unset_kept : (plan : Plan) (ranges : List (ℕ × ℕ)) → IsPlan plan → All (λ (range : ℕ × ℕ). IsRange range.0 range.1) ranges → IsPlan (unset_plan ranges plan)
unfolding rows_of
unset_kept plan ranges kept all = record {
  header = kept.header;
  cap = kept.cap;
  shape = tt;
  few_switches = kept.few_switches;
  names = subst AreNames (ap (λ names. plan.switches ++ names) (sym (names-with_ranges ranges plan.terminals))) kept.names;
  terminals = record {
    few = omega (arith, length-with_ranges ranges plan.terminals, kept.terminals.few);
    on_switches = hosted (IsSwitchPort (length plan.switches)) ranges plan.terminals kept.terminals.on_switches;
    ranges = ranged ranges plan.terminals all kept.terminals.ranges;
  };
  wires = kept.wires;
  links = subst (AreDistinct is_port) (ap (λ ports. ports ++ both_ends plan.wires) (sym (hosts-with_ranges ranges plan.terminals))) kept.links;
  continues = record { later = All-nil _; once = tt };
  deletes = record { known = All-nil _; once = tt };
  bases = record { of_inputs = All-nil _; ranges = All-nil _; once = tt };
  rows = record { of_inputs = All-nil _; ranges = All-nil _; few = λ p. omega arith };
  randoms = record { of_inputs = All-nil _; ranges = All-nil _; once = tt };
}

-- the whole plan
pub set_further : (plan : Plan) (image : Image) → IsPlan plan → IsImage image → Fits image plan → IsSetFurther (unset_plan image.ranges plan) (row_plan plan image)
unfolding row_plan
set_further plan image kept is_image fits =
    let unset : Plan = unset_plan image.ranges plan in
    let unset_is : IsPlan unset = unset_kept plan image.ranges kept is_image.ranges in
    search (arith, switches_kept, and_then, deletes_kept, length-with_ranges)

pub row_plan_kept : (plan : Plan) (image : Image) → IsPlan plan → IsImage image → Fits image plan → IsPlan (row_plan plan image)
row_plan_kept plan image kept is_image fits = (set_further plan image kept is_image fits).kept

pub row_plan_hand : (plan : Plan) (image : Image) → IsPlan plan → IsImage image → Fits image plan → (row_plan plan image).shape ≡ Hand
row_plan_hand plan image kept is_image fits = (set_further plan image kept is_image fits).shape

pub row_plan_network : (plan : Plan) (image : Image) → IsPlan plan → IsImage image → Fits image plan → IsOfNetwork plan (row_plan plan image)
row_plan_network plan image kept is_image fits = search (arith, set_further, names-with_ranges, hosts-with_ranges)
