use Rattle.{c104_session.proofs.FurtherRounds.plain_halted, c104_stream.proofs.ScriptEnds.err_is}

-- a round was refused, or there was no memory for it
pub returns-in_err-rounds-clause-due : Rattle.c104_session.proofs.driver.PlainDriver.further_round.Goals.returns-in_err-rounds-clause-due
returns-in_err-rounds-clause-due c =
    rw (err_is _ _ c.from_residual.ensures)
    (plain_halted c.args.net.now c.rounds.new.self c.in_err-rounds.field-0.0 c.in_err-rounds.ensures.handed)
