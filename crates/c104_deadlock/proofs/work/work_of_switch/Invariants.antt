use Rattle.{c104_deadlock.specs.{HeaderWork.{full_input, full_link, none_ahead}, Work.{sum_at, told_work}}, std.proofs.Common.{take, ◌+◌}}
use Rattle.std.proofs.Common.{◌≡◌}

-- the work of the links so far
abbrev pub invariant-loop-link : Rattle.c104_deadlock.proofs.work.work_of_switch.Given.invariant-loop-link
invariant-loop-link g l = l.sum ≡ told_work (sum_at (full_input l.plan (g.R.Ranking.rank l.ranks) none_ahead l.place) 0 (take l.link l.switch.inputs) + sum_at (full_link l.plan (g.R.Ranking.rank l.ranks) none_ahead l.place) 0 (take l.link l.switch.outputs))
