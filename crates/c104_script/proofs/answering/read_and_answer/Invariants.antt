use Rattle.{c104_script.specs.Answering.shown_by, c104_stream.proofs.ScriptSoFar.Reached, std.specs.Io.KnownBytes.prepend_known}
use Rattle.c104_script.proofs.answering.read_and_answer.Given as goal

-- how far the script is read and answered
abbrev pub invariant-loop-left : goal.invariant-loop-left
invariant-loop-left g l = Reached (shown_by g.A.AnswersLines.answers) (prepend_known l.initial.ahead (g.S.Read.remaining l.initial.script)) (prepend_known l.ahead (g.S.Read.remaining l.script)) (g.W.Write.contents l.initial.writer) (g.W.Write.contents l.writer) l.kept l.initial.state l.state l.number l.buffers.line.items l.left

abbrev pub decreases-loop-left : goal.decreases-loop-left
decreases-loop-left g l = l.left
