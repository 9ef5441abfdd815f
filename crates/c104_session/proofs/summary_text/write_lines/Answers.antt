use Rattle.{c104_session.proofs.KeptTexts.text_stops, c104_stream.{proofs.ScriptEnds.err_is, specs.declared.halt.Halt.Halt}}

pub returns-in_err-flush : Rattle.c104_session.proofs.summary_text.write_lines.Goals.returns-in_err-flush
returns-in_err-flush g c =
    rw (err_is _ Halt.CannotWrite c.from_residual-in_err-flush.ensures)
    (text_stops _ _ _ _ _ _ c.in_ok-kept.ensures c.in_ok-add_lines.ensures.kept c.in_err-flush.ensures.prefix)
