use Rattle.{c104_session.{proofs.KeptTexts.Reached, specs.Shown.{line_text, lines_text}}, std.proofs.Common.◌++◌}

-- the lines before this one have joined what is kept
abbrev pub invariant-loop-line : Rattle.c104_session.proofs.summary_text.add_lines.Given.invariant-loop-line
invariant-loop-line g l = Reached (line_text l.plan) l.lines (g.W.Write.contents l.initial.writer) (g.W.Write.contents l.writer) l.kept (l.initial.kept ++ lines_text l.plan l.lines) l.line-index
