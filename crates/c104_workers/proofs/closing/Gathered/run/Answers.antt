use Rattle.{c104_plan.specs.Plans.IsPlan, c104_run.specs.NodeRuns.{TellRun, nodes_run}}
use Rattle.{c104_workers.{proofs.WholeRuns.{whole_run, whole_tells}, specs.Fabrics.Left}, std.proofs.Common.{ap, subst, sym, ◌∙◌}}
use Rattle.std.proofs.lemmas.Result.{IfOk-weaker}
use Rattle.c104_workers.proofs.closing.Gathered.run.Goals as goal

pub of_nodes-requires : goal.of_nodes-requires
of_nodes-requires c =
    subst (λ p. TellRun p c.nodes.result.now c.self.inside.next) (sym c.plan-2.ensures.plan)
    (subst (λ ns. TellRun c.args.self.now.handed.plan ns c.self.inside.next) (sym c.nodes.ensures)
    (subst (TellRun c.args.self.now.handed.plan c.args.self.now.nodes) (sym (ap (λ (l : Left). l.next) c.self.view_is))
    (whole_tells c.args.self.now c.plan.ensures.left (subst IsPlan c.plan.ensures.plan c.switches-switches.ensures.kept) c.requires)))

pub returns : goal.returns
returns c =
    IfOk-weaker c.of_nodes.result _ _
    (λ run is. whole_run c.args.self.now c.plan.ensures.left (subst IsPlan c.plan.ensures.plan c.switches-switches.ensures.kept) c.requires run
    (is ∙ ap (λ p. nodes_run p c.nodes.result.now c.self.inside.next) c.plan-2.ensures.plan
    ∙ ap (λ ns. nodes_run c.args.self.now.handed.plan ns c.self.inside.next) c.nodes.ensures
    ∙ ap (nodes_run c.args.self.now.handed.plan c.args.self.now.nodes) (ap (λ (l : Left). l.next) c.self.view_is)))
    c.of_nodes.ensures
