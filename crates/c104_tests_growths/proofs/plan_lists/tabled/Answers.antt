use Rattle.{c104_plan.{proofs.ImageMade.ranges_kept, specs.PlanImage.range_of}, std.proofs.Common.{ap, length, ◌∙◌}}
use Rattle.std.proofs.lemmas.List.{length-map}
use Rattle.c104_tests_growths.proofs.plan_lists.tabled.Goals as goal

pub with_tables-made-requires-clause-terminals : goal.with_tables-made-requires-clause-terminals
with_tables-made-requires-clause-terminals c =
    ap length (c.in_ok-ranges.ensures.ranges) ∙ length-map c.args.plan.now.terminals range_of

pub with_tables-made-requires-clause-ranges : goal.with_tables-made-requires-clause-ranges
with_tables-made-requires-clause-ranges c =
    ranges_kept c.args.plan.now c.in_ok-ranges.ranges.items c.ranges-2.ensures.kept c.in_ok-ranges.ensures.ranges
