use Rattle.{c104_plan.specs.{Plans.IsPlan, Wiring.peer, declared.ports.Port.Port}, c104_run.proofs.WiredPorts.{has_wire, some_mapped}}
use Rattle.{c104_run.specs.Ends.end_of, std.proofs.Common.{ap, is_some, subst, sym, ◌∙◌}}
use Rattle.c104_run.proofs.wires.Wires.is_linked.Goals as goal

pub returns-clause-linked : goal.returns-clause-linked
returns-clause-linked c = c.is_some.ensures ∙ ap is_some c.far_end-far.ensures ∙ some_mapped (end_of c.args.self.now) (peer c.args.self.now (Port.Terminal c.args.terminal))

pub returns-clause-wired : goal.returns-clause-wired
returns-clause-wired c = λ is. has_wire c.args.self.now (subst IsPlan c.self.view_is c.switches-switches.ensures.kept) (Port.Terminal c.args.terminal) (sym (returns-clause-linked c) ∙ is)
