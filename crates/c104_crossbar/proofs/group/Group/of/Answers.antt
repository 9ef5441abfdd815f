use Rattle.{c104_crossbar.proofs.GroupLemmas.{IsGroup-same_after_zero, IsGroup-unique, has_bit-past, in_group-is}, std.proofs.Common.arith}
use Rattle.std.proofs.lemmas.Grind.{common_steps}
use Rattle.c104_crossbar.proofs.group.Group.of.Goals as goal

pub returns-clause-group : goal.returns-clause-group
returns-clause-group c = grind (arith, common_steps)

pub returns-clause-members : goal.returns-clause-members
returns-clause-members c = in_group-is _ _ _ _ (returns-clause-group c) (has_bit-past c.args.continues c.ranges.continues.fits)

pub returns-clause-unique : goal.returns-clause-unique
returns-clause-unique c = λ first last other. IsGroup-unique _ _ _ _ first last (returns-clause-group c) other

pub returns-clause-zero : goal.returns-clause-zero
returns-clause-zero c = IsGroup-same_after_zero _ _ _ _ (returns-clause-group c)
