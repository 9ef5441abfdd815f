use Rattle.c104_tools.{proofs.KnownCommands.outcome_due, specs.{Loads.verify_list, Outcomes.{Outcome, due_value_only, nothing_made}}}
use Rattle.{c104_tools.specs.Ports.Commanded, std.proofs.Common.subst}
use Rattle.c104_tools.proofs.verifying.verify.Goals as goal

pub returns-clause-asked : goal.returns-clause-asked
returns-clause-asked g c same =
    subst (λ image. Outcome (Commanded g.P.ControlPort.commands g.P.ControlPort.switch_count g.P.ControlPort.shown g.P.ControlPort.unanswered g.P.ControlPort.due) due_value_only nothing_made c.args.port.now (verify_list image) c.verify_all.result c.verify_all.new.port) c.switches-kept.ensures.settings c.verify_all.ensures.asked

pub returns-clause-due : goal.returns-clause-due
returns-clause-due g c same = outcome_due g.P.ControlPort.commands g.P.ControlPort.switch_count g.P.ControlPort.shown g.P.ControlPort.unanswered g.P.ControlPort.due due_value_only nothing_made _ _ _ _ (returns-clause-asked g c same)
