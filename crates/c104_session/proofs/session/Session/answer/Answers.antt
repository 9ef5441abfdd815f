use Rattle.{c104_plan.specs.Plans.IsPlan, c104_session.proofs.{SettledLaw.answer_settles, SettlingEnds.answer_ends}}
use Rattle.std.proofs.Common.{subst}
use Rattle.c104_session.proofs.session.Session.answer.Goals as goal

pub returns-clause-settled : goal.returns-clause-settled
returns-clause-settled c =
    answer_settles c.args.self.now c.answer_driven.new.self c.args.line.now c.answer_driven.result
    (subst IsPlan c.told_plan-plan.ensures.plan c.switches-switches.ensures.kept) c.told_plan-plan.ensures.told
    c.answer_driven.ensures.answered

pub returns-clause-ends : goal.returns-clause-ends
returns-clause-ends c =
    answer_ends c.args.self.now c.answer_driven.new.self c.args.line.now c.answer_driven.result
    (subst IsPlan c.told_plan-plan.ensures.plan c.switches-switches.ensures.kept) c.told_plan-plan.ensures.told
    c.rounds_end.ensures c.answer_driven.ensures.answered
