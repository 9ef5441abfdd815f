use Rattle.{c104_storm.{proofs.StormEnds.{from_reader, nothing_sent}, specs.Sends.send_outcome}, c104_stream.proofs.ScriptEnds.err_is}
use Rattle.c104_stream.specs.declared.halt.Halt.{Halt}
use Rattle.c104_storm.proofs.storms.answer_sends.Goals as goal

pub returns-in_err-ahead : goal.returns-in_err-ahead
returns-in_err-ahead g c = rw (err_is _ Halt.NoMemory c.from_residual.ensures) (nothing_sent _ _ _)

pub returns : goal.returns
unfolding send_outcome
returns g c = from_reader _ _ _ _ _ _ _ _ c.in_ok-ahead.ensures c.answer_lines.ensures
