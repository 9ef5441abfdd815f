use Rattle.{c104_audit.specs.Audits.AreLists, c104_plan.specs.Plans.IsPlan, c104_workers.proofs.AuditedLeft.are_lists}
use Rattle.std.proofs.{Common.{subst, sym}, lemmas.Result.IfOk-weaker}
use Rattle.c104_workers.proofs.closing.Gathered.lists.Goals as goal

pub returns-clause-judged : goal.returns-clause-judged
returns-clause-judged c =
    IfOk-weaker c.copied_lists.result _ _
    (λ lists is. subst AreLists (sym is) (are_lists c.args.self.now c.plan.ensures.left (subst IsPlan c.plan.ensures.plan c.switches-switches.ensures.kept)))
    c.copied_lists.ensures.lists
