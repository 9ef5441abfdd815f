use Rattle.{c104_session.proofs.PlanRuns.{nothing_run, of_plan, run_ends}, c104_stream.proofs.ScriptEnds.err_is}
use Rattle.c104_stream.specs.declared.halt.Halt.{Halt}
use Rattle.c104_session.proofs.runs.run_plan.Goals as goal

pub returns-in_err-session : goal.returns-in_err-session
returns-in_err-session g c = rw (err_is _ Halt.NoMemory c.from_residual.ensures) (nothing_run _ _ _ _ _)

pub returns : goal.returns
returns g c =
    run_ends c.args.plan.now c.args.image _ _ _ _ _ c.answer_script-answered.new.session _ _ _
    (of_plan c.args.plan.now c.args.image _ _ _ _ _ _ _ c.in_ok-session.ensures c.answer_script-answered.ensures.answered)
    c.finish-ended.ensures.run c.finish-ended.ensures.faulty c.end_run-came.ensures
