use Rattle.{c104_check.{proofs.RankSteps.part_none, specs.Cycles.ArePartialRanks}, std.proofs.Common.{subst, sym, ◌∙◌}}

pub rank_all-requires-clause-part : Rattle.c104_check.proofs.cycles.rank_inputs.Goals.rank_all-requires-clause-part
rank_all-requires-clause-part c = subst (ArePartialRanks c.args.table.now) (sym (c.deref_mut.ensures.value ∙ c.in_ok-ranks.ensures.items_if_clones_equal (λ y is. is))) (part_none c.args.table.now c.args.places)
