use Rattle.{c104_net.specs.TracedEnds.traced_end, c104_session.specs.Shown.{lines_text, terminals_text}, std.proofs.Common.{drop, ◌++◌}}
use Rattle.std.proofs.Common.{◌≡◌}

-- the lines so far, and those of the terminals that are left, are those of all
abbrev pub invariant-loop-terminal : Rattle.c104_session.proofs.summary.add_terminals.Given.invariant-loop-terminal
invariant-loop-terminal l = lines_text l.run.finished.plan l.lines.items ++ terminals_text l.run.finished.plan (traced_end l.run) l.terminal (drop l.terminal l.run.finished.plan.terminals) ≡ lines_text l.run.finished.plan l.initial.lines.items ++ terminals_text l.run.finished.plan (traced_end l.run) 0 l.run.finished.plan.terminals
