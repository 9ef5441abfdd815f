use Rattle.c104_regs.specs.{Addresses.address_number, declared.addresses.{Address.TheVariants.AtLink, Register.TheVariants.Select}}
use Rattle.c104_tools.proofs.{Asking.err_is, KnownCommands.outcome_due, Readings.{cut_again, first_of, table_bad, table_came}}
use Rattle.c104_tools.{proofs.{Readings.{table_first_fault, table_is}, SeenValues.{are_seen, table_named}}, specs.Outcomes.any_value}
use Rattle.{c104_tools.specs.{Outcomes.table_made, Ports.Commanded, Tables.{row_codes, row_limits, table_addresses}}, std.proofs.Common.Err}
use Rattle.std.proofs.Common.{Ok, ap, arith, get_or, length, map, refl, sym, ◌++◌, ◌∙◌, ◌∷◌, ◌≡◌}
use Rattle.c104_tools.proofs.tables.read_table.Goals as goal

pub returns-in_err-read_run-clause-asked : goal.returns-in_err-read_run-clause-asked
returns-in_err-read_run-clause-asked g c below =
    let f = c.in_err-read_run.field-0.0 in
    record {
      read = Err f;
      came = table_first_fault (Commanded g.P.ControlPort.commands g.P.ControlPort.switch_count g.P.ControlPort.shown g.P.ControlPort.unanswered g.P.ControlPort.due) c.args.switch c.args.link c.number-first.result _ (address_number (AtLink c.args.link (Select 0))) 36 (omega (arith, c.read_run.auto.values)) refl c.number-first.ensures refl _ _ f c.in_err-read_run.ensures.asked;
      made = err_is c.from_residual.result f c.from_residual.ensures;
    }

pub returns-in_err-read_run-2-clause-asked : goal.returns-in_err-read_run-2-clause-asked
returns-in_err-read_run-2-clause-asked g c below =
    let f = c.in_err-read_run-2.field-0.0 in
    record {
      read = Err f;
      came = table_came (Commanded g.P.ControlPort.commands g.P.ControlPort.switch_count g.P.ControlPort.shown g.P.ControlPort.unanswered g.P.ControlPort.due) c.args.switch c.args.link c.number-first.result _ c.number-second.result _ (omega (arith, c.read_run.auto.values)) (omega (arith, c.read_run-2.auto.values)) c.number-first.ensures c.number-second.ensures _ _ _ c.read_run.new.values (Err f) c.in_ok-read_run.ensures.asked c.in_err-read_run-2.ensures.asked;
      made = err_is c.from_residual-in_err-read_run-2.result f c.from_residual-in_err-read_run-2.ensures;
    }

pub returns-in-Some-clause-asked : goal.returns-in-Some-clause-asked
returns-in-Some-clause-asked g c below =
    let limits = c.read_run.new.values in
    let codes = c.read_run-2.new.values in
    let many : length limits ≡ 37 = omega (arith, c.read_run.auto.values) in
    record {
      read = Ok (limits ++ codes);
      came = table_came (Commanded g.P.ControlPort.commands g.P.ControlPort.switch_count g.P.ControlPort.shown g.P.ControlPort.unanswered g.P.ControlPort.due) c.args.switch c.args.link c.number-first.result _ c.number-second.result _ (omega (arith, c.read_run.auto.values)) (omega (arith, c.read_run-2.auto.values)) c.number-first.ensures c.number-second.ensures _ _ _ limits (Ok codes) c.in_ok-read_run.ensures.asked c.in_ok-read_run-2.ensures.asked;
      made = sym (table_is c.args.switch limits codes _ c.in-Some.rows many refl c.in-Some.ensures.made c.in-Some.ensures.good) ∙ cut_again c.args.switch limits codes many;
    }

pub returns-in-None-clause-asked : goal.returns-in-None-clause-asked
returns-in-None-clause-asked g c below =
    let limits = c.read_run.new.values in
    let codes = c.read_run-2.new.values in
    record {
      read = Ok (limits ++ codes);
      came = table_came (Commanded g.P.ControlPort.commands g.P.ControlPort.switch_count g.P.ControlPort.shown g.P.ControlPort.unanswered g.P.ControlPort.due) c.args.switch c.args.link c.number-first.result _ c.number-second.result _ (omega (arith, c.read_run.auto.values)) (omega (arith, c.read_run-2.auto.values)) c.number-first.ensures c.number-second.ensures _ _ _ limits (Ok codes) c.in_ok-read_run.ensures.asked c.in_ok-read_run-2.ensures.asked;
      made = sym (table_bad c.args.switch limits codes c.in-None.ensures.read) ∙ cut_again c.args.switch limits codes (omega (arith, c.read_run.auto.values));
    }

pub returns-in-Some-clause-seen : goal.returns-in-Some-clause-seen
returns-in-Some-clause-seen g c below =
    let limits = c.read_run.new.values in
    let codes = c.read_run-2.new.values in
    let limits_are : get_or limits 0 0 ∷ map row_limits c.in-Some.rows ≡ limits = first_of limits (map row_limits c.in-Some.rows) (omega (arith, c.read_run.auto.values)) c.in-Some.ensures.read.0 in
    are_seen g.P.ControlPort.commands g.P.ControlPort.switch_count g.P.ControlPort.shown g.P.ControlPort.unanswered g.P.ControlPort.due c.args.switch (table_addresses c.args.link) (limits ++ codes) _ _ _ (table_named c.args.link c.requires)
    (table_came (Commanded g.P.ControlPort.commands g.P.ControlPort.switch_count g.P.ControlPort.shown g.P.ControlPort.unanswered g.P.ControlPort.due) c.args.switch c.args.link c.number-first.result _ c.number-second.result _ (omega (arith, c.read_run.auto.values)) (omega (arith, c.read_run-2.auto.values)) c.number-first.ensures c.number-second.ensures _ _ _ limits (Ok codes) c.in_ok-read_run.ensures.asked c.in_ok-read_run-2.ensures.asked)
    (sym (ap (λ xs. xs ++ map row_codes c.in-Some.rows) limits_are ∙ ap (λ xs. limits ++ xs) c.in-Some.ensures.read.1))

pub returns-in_err-read_run-clause-due : goal.returns-in_err-read_run-clause-due
returns-in_err-read_run-clause-due g c below = outcome_due g.P.ControlPort.commands g.P.ControlPort.switch_count g.P.ControlPort.shown g.P.ControlPort.unanswered g.P.ControlPort.due any_value (table_made c.args.switch) _ _ _ _ (returns-in_err-read_run-clause-asked g c below)

pub returns-in_err-read_run-2-clause-due : goal.returns-in_err-read_run-2-clause-due
returns-in_err-read_run-2-clause-due g c below = outcome_due g.P.ControlPort.commands g.P.ControlPort.switch_count g.P.ControlPort.shown g.P.ControlPort.unanswered g.P.ControlPort.due any_value (table_made c.args.switch) _ _ _ _ (returns-in_err-read_run-2-clause-asked g c below)

pub returns-in-Some-clause-due : goal.returns-in-Some-clause-due
returns-in-Some-clause-due g c below = outcome_due g.P.ControlPort.commands g.P.ControlPort.switch_count g.P.ControlPort.shown g.P.ControlPort.unanswered g.P.ControlPort.due any_value (table_made c.args.switch) _ _ _ _ (returns-in-Some-clause-asked g c below)

pub returns-in-None-clause-due : goal.returns-in-None-clause-due
returns-in-None-clause-due g c below = outcome_due g.P.ControlPort.commands g.P.ControlPort.switch_count g.P.ControlPort.shown g.P.ControlPort.unanswered g.P.ControlPort.due any_value (table_made c.args.switch) _ _ _ _ (returns-in-None-clause-asked g c below)
