use Rattle.{c104_net.specs.MeteredRecords.{at_meter, record_metered}, c104_run.specs.FairRounds.{fair_round, fairly, in_turn}}
use Rattle.{c104_run.specs.RoundParts.PartEnds, c104_session.proofs.KeptFairLoops.{fair_halted, fair_unbegun}}
use Rattle.{c104_stream.proofs.ScriptEnds.err_is, std.proofs.Common.{Err, subst}}
use Rattle.c104_session.proofs.keepers.keep_fair_round.Goals as goal

pub returns-in_err-begin : goal.returns-in_err-begin
returns-in_err-begin g c =
    rw (err_is _ _ c.from_residual.ensures)
    (fair_unbegun g.K.Meter.sees g.K.Keeper.keeps c.args.words c.args.net.now c.args.net.now c.args.turns.now c.args.turns.now c.args.keeper.now c.begin.new.self)

pub returns-in_err-fair_round_told : goal.returns-in_err-fair_round_told
returns-in_err-fair_round_told g c =
    rw (err_is _ _ c.from_residual-in_err-fair_round_told.ensures)
    (fair_halted g.K.Meter.sees g.K.Keeper.keeps c.args.words c.args.net.now c.fair_round_told.new.self c.args.turns.now c.fair_round_told.new.turns c.args.keeper.now c.in_err-fair_round_told.field-0.0 c.fair_round_told.new.meter
    (subst (λ m. PartEnds (fairly (record_metered g.K.Meter.sees)) (in_turn (at_meter c.args.net.now m) c.args.turns.now) (fair_round c.args.words c.args.turns.now c.args.net.now.network.plan)
    (Err c.in_err-fair_round_told.field-0.0) (in_turn (at_meter c.fair_round_told.new.self c.fair_round_told.new.meter) c.fair_round_told.new.turns))
    c.in_ok-begin.ensures c.in_err-fair_round_told.ensures))
