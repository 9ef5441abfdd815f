use Rattle.c104_tools.proofs.{Asking.err_is, KnownCommands.outcome_due, Readings.{link_came, seven_of}, SeenValues.{are_seen, link_named}}
use Rattle.{c104_tools.specs.{Outcomes.{any_value, link_made}, Ports.Commanded, Reads.link_addresses}, std.proofs.Common.{Err, Ok, arith}}
use Rattle.std.proofs.Common.{refl}
use Rattle.c104_tools.proofs.reading.read_link.Goals as goal

pub returns-in_err-read_run-clause-asked : goal.returns-in_err-read_run-clause-asked
returns-in_err-read_run-clause-asked g c below =
    let f = c.in_err-read_run.field-0.0 in
    record {
      read = Err f;
      came = link_came (Commanded g.P.ControlPort.commands g.P.ControlPort.switch_count g.P.ControlPort.shown g.P.ControlPort.unanswered g.P.ControlPort.due) c.args.switch c.args.link c.number-first.result _ _ _ (Err f) c.number-first.ensures (omega (arith, c.read_run.auto.values)) c.in_err-read_run.ensures.asked;
      made = err_is c.from_residual.result f c.from_residual.ensures;
    }

pub returns-in_err-read_run-clause-due : goal.returns-in_err-read_run-clause-due
returns-in_err-read_run-clause-due g c below = outcome_due g.P.ControlPort.commands g.P.ControlPort.switch_count g.P.ControlPort.shown g.P.ControlPort.unanswered g.P.ControlPort.due any_value link_made _ _ _ _ (returns-in_err-read_run-clause-asked g c below)

pub returns-clause-asked : goal.returns-clause-asked
returns-clause-asked g c below = record {
  read = Ok c.read_run.new.values;
  came = link_came (Commanded g.P.ControlPort.commands g.P.ControlPort.switch_count g.P.ControlPort.shown g.P.ControlPort.unanswered g.P.ControlPort.due) c.args.switch c.args.link c.number-first.result _ _ _ (Ok c.read_run.new.values) c.number-first.ensures (omega (arith, c.read_run.auto.values)) c.in_ok-read_run.ensures.asked;
  made = refl;
}

pub returns-clause-due : goal.returns-clause-due
returns-clause-due g c below = outcome_due g.P.ControlPort.commands g.P.ControlPort.switch_count g.P.ControlPort.shown g.P.ControlPort.unanswered g.P.ControlPort.due any_value link_made _ _ _ _ (returns-clause-asked g c below)

pub returns-clause-seen : goal.returns-clause-seen
returns-clause-seen g c below =
    are_seen g.P.ControlPort.commands g.P.ControlPort.switch_count g.P.ControlPort.shown g.P.ControlPort.unanswered g.P.ControlPort.due c.args.switch (link_addresses c.args.link) c.read_run.new.values _ _ _ (link_named c.args.link c.requires)
    (link_came (Commanded g.P.ControlPort.commands g.P.ControlPort.switch_count g.P.ControlPort.shown g.P.ControlPort.unanswered g.P.ControlPort.due) c.args.switch c.args.link c.number-first.result _ _ _ (Ok c.read_run.new.values) c.number-first.ensures (omega (arith, c.read_run.auto.values)) c.in_ok-read_run.ensures.asked) (seven_of c.read_run.new.values (omega (arith, c.read_run.auto.values)))
