use Rattle.{c104_script.specs.Answering.shown_by, c104_stream.proofs.ScriptEnds.{err_is, nothing_answered, script_flushed}}
use Rattle.c104_stream.{proofs.ScriptEnds.script_unflushed, specs.declared.halt.Halt.Halt}
use Rattle.c104_script.proofs.answering.answer_lines.Goals as goal

pub returns-in_err-kept : goal.returns-in_err-kept
returns-in_err-kept g c = rw (err_is _ Halt.NoMemory c.from_residual.ensures) (nothing_answered (shown_by g.A.AnswersLines.answers) _ _ _ _)

pub returns-in_err-flush : goal.returns-in_err-flush
returns-in_err-flush g c =
    rw (err_is _ Halt.CannotWrite c.from_residual-in_err-flush.ensures)
    (script_unflushed (shown_by g.A.AnswersLines.answers) _ _ _ _ _ _ _ _ _ c.read_and_answer-answered.ensures c.in_err-flush.ensures.prefix)

pub returns : goal.returns
returns g c = script_flushed (shown_by g.A.AnswersLines.answers) _ _ _ _ _ _ _ _ _ c.read_and_answer-answered.ensures c.in_ok-flush.ensures.written
