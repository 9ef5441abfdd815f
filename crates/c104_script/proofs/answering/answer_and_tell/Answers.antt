use Rattle.{c104_script.specs.Answering.shown_by, c104_stream.proofs.ScriptEnds.{err_is, told_line, untold_line}}
use Rattle.c104_stream.specs.declared.halt.Halt.{Halt}
use Rattle.c104_script.proofs.answering.answer_and_tell.Goals as goal

pub returns-in_err-tell_about : goal.returns-in_err-tell_about
returns-in_err-tell_about g c =
    rw (err_is _ Halt.CannotWrite c.from_residual-in_err-tell_about.ensures)
    (untold_line (shown_by g.A.AnswersLines.answers) _ _ _ _ _ _ _ _ _ _ c.in_ok-answer.ensures c.in_err-tell_about.ensures.empty c.in_err-tell_about.ensures.prefix)

pub returns : goal.returns
returns g c = told_line (shown_by g.A.AnswersLines.answers) _ _ _ _ _ _ _ _ _ _ c.in_ok-answer.ensures c.in_ok-tell_about.ensures.kept
