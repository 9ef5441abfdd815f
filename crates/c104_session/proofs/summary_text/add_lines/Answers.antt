use Rattle.c104_session.{proofs.KeptTexts.{at_error, reached_next, reached_stops}, specs.Shown.line_text}
use Rattle.c104_session.proofs.summary_text.add_lines.Goals as goal

pub returns-in_err-add_line-clause-prefix : goal.returns-in_err-add_line-clause-prefix
returns-in_err-add_line-clause-prefix g c =
    at_error _ c.from_residual.result
    (reached_stops (line_text c.args.plan.now) c.args.lines.now _ _ _ _ _ _ c.loop-line.invariant c.line-item.result c.line-item.result c.loop-line-test.true c.line-item.is c.in_err-add_line.ensures.prefix)

pub loop-line-preserved : goal.loop-line-preserved
loop-line-preserved g c =
    reached_next (line_text c.args.plan.now) c.args.lines.now _ _ _ _ _ _ c.loop-line.invariant c.line-item.result c.line-item.result _ c.loop-line-test.true c.line-item.is c.in_ok-add_line.ensures.kept
