use Rattle.{c104_plan.specs.Plans.IsPlan, c104_run.specs.NodeRuns.{TellRun, nodes_run}, c104_workers.proofs.AuditedLeft.left_tells}
use Rattle.{c104_workers.proofs.AuditedLeft.tells_seats, std.proofs.Common.{ap, subst, sym, ◌∙◌}}
use Rattle.c104_workers.proofs.closing.Gathered.audit.Goals as goal

pub of_nodes-requires : goal.of_nodes-requires
of_nodes-requires c =
    subst (λ p. TellRun p c.nodes.result.now c.in_ok-count.count) (sym c.plan-2.ensures.plan)
    (subst (λ ns. TellRun c.args.self.now.handed.plan ns c.in_ok-count.count) (sym c.nodes.ensures)
    (subst (λ n. TellRun c.args.self.now.handed.plan c.args.self.now.nodes n) (sym c.in_ok-count.ensures.count)
    (left_tells c.args.self.now c.plan.ensures.left (subst IsPlan c.plan.ensures.plan c.switches-switches.ensures.kept) c.in_ok-count.ensures.audited.1 c.in_ok-count.ensures.audited.0)))

pub returns-clause-run : goal.returns-clause-run
returns-clause-run c =
    tells_seats c.args.self.now c.plan.ensures.left (subst IsPlan c.plan.ensures.plan c.switches-switches.ensures.kept) c.in_ok-count.ensures.audited.1 c.in_ok-count.ensures.audited.0 c.in_ok-of_nodes.field-0
    (c.in_ok-of_nodes.ensures ∙ ap (λ p. nodes_run p c.nodes.result.now c.in_ok-count.count) c.plan-2.ensures.plan
    ∙ ap (λ ns. nodes_run c.args.self.now.handed.plan ns c.in_ok-count.count) c.nodes.ensures
    ∙ ap (nodes_run c.args.self.now.handed.plan c.args.self.now.nodes) c.in_ok-count.ensures.count)
