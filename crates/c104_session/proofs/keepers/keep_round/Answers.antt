use Rattle.{c104_net.specs.MeteredRecords.{at_meter, record_metered}, c104_run.specs.{HandedWords.round_with, RoundParts.PartEnds}}
use Rattle.{c104_session.proofs.KeptLoops.{round_halted, round_unbegun}, c104_stream.proofs.ScriptEnds.err_is, std.proofs.Common.Err}
use Rattle.std.proofs.Common.{subst}
use Rattle.c104_session.proofs.keepers.keep_round.Goals as goal

pub returns-in_err-begin : goal.returns-in_err-begin
returns-in_err-begin g c =
    rw (err_is _ _ c.from_residual.ensures)
    (round_unbegun g.K.Meter.sees g.K.Keeper.keeps c.args.words c.args.net.now c.args.net.now c.args.keeper.now c.begin.new.self)

pub returns-in_err-round_told : goal.returns-in_err-round_told
returns-in_err-round_told g c =
    rw (err_is _ _ c.from_residual-in_err-round_told.ensures)
    (round_halted g.K.Meter.sees g.K.Keeper.keeps c.args.words c.args.net.now c.round_told.new.self c.args.keeper.now c.in_err-round_told.field-0.0 c.round_told.new.meter
    (subst (λ m. PartEnds (record_metered g.K.Meter.sees) (at_meter c.args.net.now m) (round_with c.args.words c.args.net.now.network.plan)
    (Err c.in_err-round_told.field-0.0) (at_meter c.round_told.new.self c.round_told.new.meter))
    c.in_ok-begin.ensures c.in_err-round_told.ensures))
