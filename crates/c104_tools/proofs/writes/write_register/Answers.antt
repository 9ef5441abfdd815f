use Rattle.{c104_control.specs.declared.commands.Command.TheVariants.CPoke, c104_tools.proofs.Asking.{err_is, one_done, one_fails}}
use Rattle.{c104_tools.{proofs.KnownCommands.outcome_due, specs.{Loads.order, Outcomes.{any_value, nothing_made}}}, std.proofs.Common.refl}
use Rattle.c104_tools.proofs.writes.write_register.Goals as goal

pub returns-in_err-ask-clause-asked : goal.returns-in_err-ask-clause-asked
returns-in_err-ask-clause-asked g c below =
    let f = c.in_err-ask.field-0.0 in
    rw (err_is c.from_residual.result f c.from_residual.ensures)
    (one_fails _ any_value (order c.args.switch (CPoke c.args.addr c.args.value)) _ _ f c.in_err-ask.ensures.asked)

pub returns-in_err-ask-clause-due : goal.returns-in_err-ask-clause-due
returns-in_err-ask-clause-due g c below = outcome_due g.P.ControlPort.commands g.P.ControlPort.switch_count g.P.ControlPort.shown g.P.ControlPort.unanswered g.P.ControlPort.due any_value nothing_made _ _ _ _ (returns-in_err-ask-clause-asked g c below)

pub returns-clause-asked : goal.returns-clause-asked
returns-clause-asked g c below =
    let v = c.in_ok-ask.field-0 in
    one_done _ any_value (order c.args.switch (CPoke c.args.addr c.args.value)) _ _ v v c.in_ok-ask.ensures.asked refl

pub returns-clause-due : goal.returns-clause-due
returns-clause-due g c below = outcome_due g.P.ControlPort.commands g.P.ControlPort.switch_count g.P.ControlPort.shown g.P.ControlPort.unanswered g.P.ControlPort.due any_value nothing_made _ _ _ _ (returns-clause-asked g c below)
