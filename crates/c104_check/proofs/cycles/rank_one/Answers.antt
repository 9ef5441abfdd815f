use Rattle.{c104_check.proofs.RankSteps.{low_most, pass_one}, std.proofs.Common.arith}
use Rattle.c104_check.proofs.cycles.rank_one.Goals as goal

pub overflow_add-ranks : goal.overflow_add-ranks
overflow_add-ranks c =
    let low = low_most c.args.table.now c.args.ranks.now c.args.place c.highest-most.result c.requires.place c.requires.none c.requires.part c.in-None.ensures c.highest-most.ensures.above c.highest-most.ensures.least in
    omega (arith, low, c.requires.small)

pub returns-clause-pass : goal.returns-clause-pass
returns-clause-pass c = pass_one c.args.table.now c.args.ranks.now c.args.place c.highest-most.result c.requires.place c.requires.none c.requires.part c.in-None.ensures c.highest-most.ensures.above c.highest-most.ensures.least
