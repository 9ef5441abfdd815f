use Rattle.{c104_net.specs.TracedEnds.traced_end, c104_plan.specs.Plans.Plan, c104_session.proofs.TerminalLines.terminals_next}
use Rattle.std.proofs.Common.{ap, length, subst, ◌<◌, ◌∙◌}

-- the lines of a terminal join
pub loop-terminal-preserved : Rattle.c104_session.proofs.summary.add_terminals.Goals.loop-terminal-preserved
loop-terminal-preserved c =
    terminals_next c.args.run.now.finished.plan (traced_end c.args.run.now) c.loop-terminal.terminal _ _ _
    (subst (λ list. c.loop-terminal.terminal < length list) (c.terminals-terminal-end.ensures.terminals ∙ ap (λ (plan : Plan). plan.terminals) c.plan.ensures) c.loop-terminal-test.true)
    c.in_ok-add_terminal.ensures c.loop-terminal.invariant
