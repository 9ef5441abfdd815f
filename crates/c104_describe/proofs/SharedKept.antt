-- A plan in which the lines that name a switch alone are written out keeps what every plan does.
use Rattle.c104_describe.specs.SharedTables.{SharedBase, SharedLines, SharedRow, base_joined, bases_joined, is_shared_row_of, is_sharing}
use Rattle.c104_describe.specs.SharedTables.{row_joined, rows_joined, switches_joined, table_joined, tables_joined}
use Rattle.{c104_interval.specs.declared.intervals.Select.Select, c104_plan.proofs.PlanKept.{with_base, with_row}}
use Rattle.c104_plan.{proofs.RowPlanKept.{IsSetFurther, and_then, as_it_was}, specs.Plans.{IsPlan, IsPlanSelect, Plan, label_count}}
use Rattle.c104_plan.specs.{Plans.rows_of, Ports.{IsSwitchPort, is_any_at}, RowPlans.is_plan_select, declared.plans.PlanBase.PlanBase}
use Rattle.{c104_plan.specs.declared.{plans.Shape.TheVariants.Hand, ports.Port.Port}, std.proofs.Common.{Bool, List, [], ap, arith, false}}
use Rattle.std.proofs.Common.{if◌then◌else◌, length, nat_le, nat_lt, not, refl, suc, true, zero, ℕ, ◌&&◌, ◌++◌, ◌<◌, ◌==◌, ◌∷◌, ◌≡◌, ◌≤◌}
use Rattle.std.proofs.lemmas.Bool.{and_parts, leb-true, ltb-true, not-true}

selects : (select : Select) → is_plan_select select ≡ true → IsPlanSelect select
selects select is = search (arith, ltb-true)

-- one more line
module _ (plan : Plan) (kept : IsPlan plan) (hand : plan.shape ≡ Hand) where
  base_kept : (p : Port) (base : ℕ) → IsSwitchPort (length plan.switches) p → IsSetFurther plan (base_joined p base plan)
  base_kept p base of_switch = by_test (nat_lt base label_count && not (is_any_at (λ (b : PlanBase). b.port) plan.bases p)) refl
    where
      by_test : (due : Bool) → (nat_lt base label_count && not (is_any_at (λ (b : PlanBase). b.port) plan.bases p)) ≡ due
          → IsSetFurther plan (record plan { bases = if due then plan.bases ++ record { port = p; base = base } ∷ [] else plan.bases })
      by_test true is =
          let within = and_parts (nat_lt base label_count) (not (is_any_at (λ (b : PlanBase). b.port) plan.bases p)) is in
          record { kept = with_base plan kept (record { port = p; base = base }) hand of_switch (ltb-true _ _ within.0) (not-true _ within.1); shape = hand; header = refl; cap = refl; switches = refl; terminals = refl; wires = refl }
      by_test false is = as_it_was plan kept hand

  row_kept : (p : Port) (limit : ℕ) (select : Select) → IsSwitchPort (length plan.switches) p → IsSetFurther plan (row_joined p limit select plan)
  row_kept p limit select of_switch = by_test (nat_lt (length (rows_of p plan.rows)) 36 && (nat_le limit label_count && is_plan_select select)) refl
    where
      by_test : (due : Bool) → (nat_lt (length (rows_of p plan.rows)) 36 && (nat_le limit label_count && is_plan_select select)) ≡ due
          → IsSetFurther plan (record plan { rows = if due then plan.rows ++ record { port = p; limit = limit; select = select } ∷ [] else plan.rows })
      by_test true is =
          let parts = and_parts (nat_lt (length (rows_of p plan.rows)) 36) (nat_le limit label_count && is_plan_select select) is in
          let within = and_parts (nat_le limit label_count) (is_plan_select select) parts.1 in
          record { kept = with_row plan kept (record { port = p; limit = limit; select = select }) hand of_switch (leb-true _ _ within.0) (selects select within.1) (ltb-true _ _ parts.0); shape = hand; header = refl; cap = refl; switches = refl; terminals = refl; wires = refl }
      by_test false is = as_it_was plan kept hand

-- a link of a switch of a plan is one of the plan with more lines
of_next : (plan next : Plan) (s l : ℕ) → IsSetFurther plan next → IsSwitchPort (length plan.switches) (Port.Switch s l) → IsSwitchPort (length next.switches) (Port.Switch s l)
of_next plan next s l is of_switch = (omega (arith, ap length is.switches, of_switch.0), of_switch.1)

bases_kept : (plan : Plan) → IsPlan plan → plan.shape ≡ Hand → (s l : ℕ) (bases : List SharedBase) → IsSwitchPort (length plan.switches) (Port.Switch s l) → IsSetFurther plan (bases_joined s (Port.Switch s l) bases plan)
bases_kept plan kept hand s l [] of_switch = as_it_was plan kept hand
bases_kept plan kept hand s l (b ∷ bases) of_switch = by_test (λ next is by_hand of_it. bases_kept next is by_hand s l bases of_it) (b.switch == s)
  where
    by_test : ((next : Plan) → IsPlan next → next.shape ≡ Hand → IsSwitchPort (length next.switches) (Port.Switch s l) → IsSetFurther next (bases_joined s (Port.Switch s l) bases next)) → (same : Bool) → IsSetFurther plan (bases_joined s (Port.Switch s l) bases (if same then base_joined (Port.Switch s l) b.base plan else plan))
    by_test more true =
        let next : Plan = base_joined (Port.Switch s l) b.base plan in
        let one : IsSetFurther plan next = base_kept plan kept hand (Port.Switch s l) b.base of_switch in
        and_then plan next _ one (more next one.kept one.shape (of_next plan next s l one of_switch))
    by_test more false = more plan kept hand of_switch

rows_kept : (plan : Plan) → IsPlan plan → plan.shape ≡ Hand → (s l : ℕ) (rows : List SharedRow) → IsSwitchPort (length plan.switches) (Port.Switch s l) → IsSetFurther plan (rows_joined s (Port.Switch s l) rows plan)
rows_kept plan kept hand s l [] of_switch = as_it_was plan kept hand
rows_kept plan kept hand s l (r ∷ rows) of_switch = by_test (λ next is by_hand of_it. rows_kept next is by_hand s l rows of_it) (is_shared_row_of s r)
  where
    by_test : ((next : Plan) → IsPlan next → next.shape ≡ Hand → IsSwitchPort (length next.switches) (Port.Switch s l) → IsSetFurther next (rows_joined s (Port.Switch s l) rows next)) → (same : Bool) → IsSetFurther plan (rows_joined s (Port.Switch s l) rows (if same then row_joined (Port.Switch s l) r.limit r.select plan else plan))
    by_test more true =
        let next : Plan = row_joined (Port.Switch s l) r.limit r.select plan in
        let one : IsSetFurther plan next = row_kept plan kept hand (Port.Switch s l) r.limit r.select of_switch in
        and_then plan next _ one (more next one.kept one.shape (of_next plan next s l one of_switch))
    by_test more false = more plan kept hand of_switch

-- the table of an input
table_kept : (plan : Plan) → IsPlan plan → plan.shape ≡ Hand → (shared : SharedLines) (s l : ℕ) → IsSwitchPort (length plan.switches) (Port.Switch s l) → IsSetFurther plan (table_joined shared s l plan)
unfolding table_joined
table_kept plan kept hand shared s l of_switch = by_test (is_sharing plan (Port.Switch s l))
  where
    by_test : (due : Bool) → IsSetFurther plan (if due then rows_joined s (Port.Switch s l) shared.rows (bases_joined s (Port.Switch s l) shared.bases plan) else plan)
    by_test true =
        let next : Plan = bases_joined s (Port.Switch s l) shared.bases plan in
        let one : IsSetFurther plan next = bases_kept plan kept hand s l shared.bases of_switch in
        and_then plan next _ one (rows_kept next one.kept one.shape s l shared.rows (of_next plan next s l one of_switch))
    by_test false = as_it_was plan kept hand

-- those of links, of which there are 32
tables_kept : (plan : Plan) → IsPlan plan → plan.shape ≡ Hand → (shared : SharedLines) (s links : ℕ) → s < length plan.switches → links ≤ 32 → IsSetFurther plan (tables_joined shared s links plan)
tables_kept plan kept hand shared s zero inside few = as_it_was plan kept hand
tables_kept plan kept hand shared s (suc l) inside few =
    let next : Plan = tables_joined shared s l plan in
    let so_far : IsSetFurther plan next = tables_kept plan kept hand shared s l inside (omega (arith, few)) in
    and_then plan next _ so_far (table_kept next so_far.kept so_far.shape shared s l (of_next plan next s l so_far (inside, omega (arith, few))))

-- those of switches
switches_kept : (plan : Plan) → IsPlan plan → plan.shape ≡ Hand → (shared : SharedLines) (count : ℕ) → count ≤ length plan.switches → IsSetFurther plan (switches_joined shared count plan)
switches_kept plan kept hand shared zero few = as_it_was plan kept hand
switches_kept plan kept hand shared (suc s) few =
    let next : Plan = switches_joined shared s plan in
    let so_far : IsSetFurther plan next = switches_kept plan kept hand shared s (omega (arith, few)) in
    let inside : s < length next.switches = omega (arith, few, ap length so_far.switches) in
    and_then plan next _ so_far (tables_kept next so_far.kept so_far.shape shared s 32 inside (omega arith))

pub joined_kept : (plan : Plan) → IsPlan plan → plan.shape ≡ Hand → (shared : SharedLines) → IsPlan (switches_joined shared (length plan.switches) plan)
joined_kept plan kept hand shared = (switches_kept plan kept hand shared (length plan.switches) (omega arith)).kept
