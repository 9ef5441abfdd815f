use Rattle.c104_deadlock.{proofs.WorkBounds.both_next, specs.HeaderWork.{full_input, full_link, none_ahead}}

pub loop-link-preserved : Rattle.c104_deadlock.proofs.work.work_of_switch.Goals.loop-link-preserved
loop-link-preserved g c =
    both_next (full_input c.args.plan.now (g.R.Ranking.rank c.args.ranks.now) none_ahead c.args.place) (full_link c.args.plan.now (g.R.Ranking.rank c.args.ranks.now) none_ahead c.args.place) c.args.switch.now.inputs c.args.switch.now.outputs c.loop-link.link c.loop-link.sum c.work_of_link-one.result c.added-sum.result
    c.loop-link.invariant c.work_of_link-one.ensures c.added-sum.ensures
