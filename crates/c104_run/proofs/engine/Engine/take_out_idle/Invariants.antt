use Rattle.std.proofs.Common.{length, ◌+◌, ◌-◌, ◌≡◌}
use Rattle.c104_run.proofs.engine.Engine.take_out_idle.Given as goal

-- only the set changes, of which nothing is seen
abbrev pub invariant-loop-place : goal.invariant-loop-place
invariant-loop-place g l = l.self ≡ l.initial.self

abbrev pub decreases-loop-place : goal.decreases-loop-place
decreases-loop-place g l = length l.initial.self.plan.switches + length l.initial.self.plan.terminals - l.from
