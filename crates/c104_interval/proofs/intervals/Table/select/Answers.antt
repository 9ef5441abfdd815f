use Rattle.{c104_interval.proofs.SelectionLemmas.IsSelected-from, std.proofs.{Common.arith, lemmas.Grind.common_steps}}
use Rattle.c104_interval.proofs.intervals.Table.select.Goals as goal

pub returns-then-header-row-clause-first_covering :
    goal.returns-then-header-row-clause-first_covering
returns-then-header-row-clause-first_covering c = IsSelected-from _ _ _ (grind (arith, common_steps))

pub returns-clause-first_covering : goal.returns-clause-first_covering
returns-clause-first_covering c = IsSelected-from _ _ _ (grind (arith, common_steps))
