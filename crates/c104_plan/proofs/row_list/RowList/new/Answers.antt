use Rattle.{c104_plan.{proofs.RowCounts.counted_none, specs.PlanIndex.AreCounted}, std.proofs.Common.{[], subst, sym}}

pub invariant_of-result : Rattle.c104_plan.proofs.row_list.RowList.new.Goals.invariant_of-result
invariant_of-result c =
    subst (AreCounted c.in_ok-counts.counts.items) (sym c.new.ensures.items)
    (subst (λ counts. AreCounted counts []) (sym (c.in_ok-counts.ensures.items_if_clones_equal (λ y same. same))) counted_none)
