use Rattle.{c104_control.specs.declared.commands.Command.TheVariants.CPeek, c104_tools.proofs.Asking.{err_is, none_left, one_differs}}
use Rattle.c104_tools.{proofs.Asking.{one_done, one_fails}, specs.{Outcomes.due_value_only, Steps.Step}}
use Rattle.{c104_tools.specs.declared.faults.LoadFault.LoadFault, std.proofs.Common.{Err, Ok, arith, false, refl, true, ℕ, ◌==◌, ◌≡◌, ◌≢◌}}
use Rattle.std.proofs.lemmas.Bool.Decides.{nat_tests}
use Rattle.c104_tools.proofs.verifying.compare.Goals as goal

-- whether a value is that of the step
module _ (switch addr due : ℕ) where
  abbrev step : Step
  step = record { switch = switch; command = CPeek addr; value = due }

  other_value : (v : ℕ) → v ≢ due → due_value_only step v ≡ Err (LoadFault.Differs switch addr v)
  other_value v differs = let no : (v == due) ≡ false = grind (arith, nat_tests) in rw no refl

  same_value : (v : ℕ) → v ≡ due → due_value_only step v ≡ Ok v
  same_value v same = let yes : (v == due) ≡ true = grind (arith, nat_tests) in rw yes refl

pub returns-in_err-found-clause-asked : goal.returns-in_err-found-clause-asked
returns-in_err-found-clause-asked g c =
    let f = c.in_err-found.field-0.0 in
    rw (c.in-Some.is, err_is c.from_residual.result f c.from_residual.ensures)
    (one_fails _ due_value_only (step c.args.switch c.args.addr c.in-Some.due) _ _ f c.in_err-found.ensures.asked)

pub returns-then-found-due-clause-asked : goal.returns-then-found-due-clause-asked
returns-then-found-due-clause-asked g c =
    let v = c.in_ok-found.found in
    rw c.in-Some.is
    (one_differs _ due_value_only (step c.args.switch c.args.addr c.in-Some.due) _ _ v _ c.in_ok-found.ensures.asked (other_value c.args.switch c.args.addr c.in-Some.due v c.if-found-due.true))

pub returns-clause-asked : goal.returns-clause-asked
returns-clause-asked g c =
    let v = c.in_ok-found.found in
    rw c.in-Some.is
    (one_done _ due_value_only (step c.args.switch c.args.addr c.in-Some.due) _ _ v v c.in_ok-found.ensures.asked (same_value c.args.switch c.args.addr c.in-Some.due v c.if-found-due.false))

pub returns-in_default-clause-asked : goal.returns-in_default-clause-asked
returns-in_default-clause-asked g c = rw c.in_default.is (none_left _ due_value_only _)
