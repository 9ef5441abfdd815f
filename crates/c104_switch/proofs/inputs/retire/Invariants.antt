use Rattle.{c104_crossbar.specs.Marks.ArePartition, c104_switch.specs.Holding.held_claims, std.proofs.Common.length}
use Rattle.c104_switch.proofs.inputs.retire.Given as goal

-- the crossbar counts as taken just the outputs whose claims the inputs that are left hold
abbrev pub invariant-loop-input : goal.invariant-loop-input
invariant-loop-input g l = ArePartition (held_claims l.list.items) l.crossbar

abbrev pub decreases-loop-input : goal.decreases-loop-input
decreases-loop-input g l = length l.list.items
