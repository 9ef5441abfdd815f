use Rattle.{c104_storm.proofs.EndingTexts.{ends_unwritten, ends_written, of_team}, c104_stream.proofs.ScriptEnds.err_is}
use Rattle.c104_stream.specs.declared.halt.Halt.{Halt}
use Rattle.c104_storm.proofs.endings.write_end.Goals as goal

pub returns-in_err-write_whole : goal.returns-in_err-write_whole
returns-in_err-write_whole g c team stop =
    rw (err_is _ Halt.CannotWrite c.from_residual-in_err-write_whole.ensures)
    (ends_unwritten team c.args.net.now c.args.sent.is_long c.args.sent.is_faulty _ _
    c.in_ok-ending.ending c.in_ok-text.text.items c.as_slice.result.now
    (of_team team _ _ _ stop c.in_ok-ending.ensures) c.in_ok-text.ensures c.as_slice.ensures.value
    c.in_err-write_whole.ensures.prefix)

pub returns : goal.returns
returns g c team stop =
    ends_written team c.args.net.now c.args.sent.is_long c.args.sent.is_faulty _ _
    c.in_ok-ending.ending c.in_ok-text.text.items c.as_slice.result.now
    c.is_refused.result (of_team team _ _ _ stop c.in_ok-ending.ensures) c.in_ok-text.ensures c.as_slice.ensures.value
    c.is_refused.ensures c.in_ok-write_whole.ensures.all
