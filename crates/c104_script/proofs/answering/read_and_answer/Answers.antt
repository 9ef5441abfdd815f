use Rattle.{c104_script.specs.Answering.shown_by, c104_stream.proofs.ScriptEnds.{byte_halts, err_is, last_halts, line_halts, read_halts}}
use Rattle.c104_stream.proofs.{ScriptEnds.{script_ends, script_is_long}, ScriptSoFar.{reached_bytes, reached_line, reached_on}}
use Rattle.std.proofs.Common.{arith}
use Rattle.c104_script.proofs.answering.read_and_answer.Goals as goal

pub returns-in_err-byte : goal.returns-in_err-byte
returns-in_err-byte g c =
    rw (err_is _ _ c.from_residual.ensures) (read_halts (shown_by g.A.AnswersLines.answers) _ _ _ _ _ _ _ _ _ _ _ _ _ c.in_err-byte.field-0.0 c.loop-left.invariant c.in_err-byte.ensures)

pub returns-in_err-answer_line : goal.returns-in_err-answer_line
returns-in_err-answer_line g c =
    let ended = rw c.in_default.is at c.in_ok-byte.ensures.0 in
    rw (err_is _ _ c.from_residual-in_err-answer_line.ensures)
    (last_halts (shown_by g.A.AnswersLines.answers) _ _ _ _ _ _ _ _ _ _ _ _ _ _ _ c.in_err-answer_line.field-0.0 (reached_on c.loop-left.invariant _ _ c.in_ok-byte.ensures.1) ended c.in_err-answer_line.ensures.answered)

pub returns-in_default : goal.returns-in_default
returns-in_default g c =
    let ended = rw c.in_default.is at c.in_ok-byte.ensures.0 in
    script_ends (shown_by g.A.AnswersLines.answers) _ _ _ _ _ _ _ _ _ _ _ _ _ _ _ (reached_on c.loop-left.invariant _ _ c.in_ok-byte.ensures.1) ended c.in_ok-answer_line.ensures.answered.0 c.in_ok-answer_line.ensures.answered.1

pub returns-in_err-answer_line-2 : goal.returns-in_err-answer_line-2
returns-in_err-answer_line-2 g c =
    let took = rw (c.in-Some.is, c.if-byte-eq10.true) at c.in_ok-byte.ensures.0 in
    rw (err_is _ _ c.from_residual-in_err-answer_line-2.ensures)
    (line_halts (shown_by g.A.AnswersLines.answers) _ _ _ _ _ _ _ _ _ _ _ _ _ _ _ c.in_err-answer_line-2.field-0.0 (reached_on c.loop-left.invariant _ _ c.in_ok-byte.ensures.1) (omega arith) took c.in_err-answer_line-2.ensures.answered)

pub returns-in_err-left : goal.returns-in_err-left
returns-in_err-left g c =
    let took = rw c.in-Some.is at c.in_ok-byte.ensures.0 in
    rw (err_is _ _ c.from_residual-in_err-left.ensures)
    (byte_halts (shown_by g.A.AnswersLines.answers) _ _ _ _ _ _ _ _ _ _ _ _ _ (reached_on c.loop-left.invariant _ _ c.in_ok-byte.ensures.1) took)

pub loop-left-preserved-then-byte-eq10 : goal.loop-left-preserved-then-byte-eq10
loop-left-preserved-then-byte-eq10 g c =
    let took = rw (c.in-Some.is, c.if-byte-eq10.true) at c.in_ok-byte.ensures.0 in
    let a = reached_line (reached_on c.loop-left.invariant _ _ c.in_ok-byte.ensures.1) _ _ _ _ (omega arith) took c.in_ok-answer_line-2.ensures.answered.0 c.in_ok-answer_line-2.ensures.answered.1 in
    rw (c.in_ok-answer_line-2.ensures.cleared) a

pub loop-left-preserved : goal.loop-left-preserved
loop-left-preserved g c =
    let took = rw c.in-Some.is at c.in_ok-byte.ensures.0 in
    reached_bytes _ _ _ (reached_on c.loop-left.invariant _ _ c.in_ok-byte.ensures.1) (omega arith) took c.if-byte-eq10.false c.in_ok-left.ensures

pub returns-in_err-next_byte : goal.returns-in_err-next_byte
returns-in_err-next_byte g c =
    rw (err_is _ _ c.from_residual-in_err-next_byte.ensures) (read_halts (shown_by g.A.AnswersLines.answers) _ _ _ _ _ _ _ _ _ _ _ _ _ c.in_err-next_byte.field-0.0 c.loop-left.invariant c.in_err-next_byte.ensures)

pub returns-in-Some-2 : goal.returns-in-Some-2
returns-in-Some-2 g c =
    let took = rw c.in-Some-2.is at c.in_ok-next_byte.ensures.0 in
    script_is_long (shown_by g.A.AnswersLines.answers) _ _ _ _ _ _ _ _ _ _ _ _ _ (reached_on c.loop-left.invariant _ _ c.in_ok-next_byte.ensures.1) (omega (arith, c.loop-left-test.false)) took

pub returns-in_err-answer_line-in-None : goal.returns-in_err-answer_line-in-None
returns-in_err-answer_line-in-None g c =
    let ended = rw c.in-None.is at c.in_ok-next_byte.ensures.0 in
    rw (err_is _ _ c.from_residual-in_err-answer_line-in-None.ensures)
    (last_halts (shown_by g.A.AnswersLines.answers) _ _ _ _ _ _ _ _ _ _ _ _ _ _ _ c.in_err-answer_line-in-None.field-0.0 (reached_on c.loop-left.invariant _ _ c.in_ok-next_byte.ensures.1) ended c.in_err-answer_line-in-None.ensures.answered)

pub returns-in_ok-answer_line-in-None : goal.returns-in_ok-answer_line-in-None
returns-in_ok-answer_line-in-None g c =
    let ended = rw c.in-None.is at c.in_ok-next_byte.ensures.0 in
    script_ends (shown_by g.A.AnswersLines.answers) _ _ _ _ _ _ _ _ _ _ _ _ _ _ _ (reached_on c.loop-left.invariant _ _ c.in_ok-next_byte.ensures.1) ended c.in_ok-answer_line-in-None.ensures.answered.0 c.in_ok-answer_line-in-None.ensures.answered.1
