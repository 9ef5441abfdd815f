use Rattle.c104_run.{proofs.FairRoundRecords.fair_round_on, specs.{FairRounds.fair_round, RecordedNets.{Reading, reading}}}
use Rattle.std.proofs.Common.{sym}
use Rattle.c104_run.proofs.recorded_net.RecordedNet.fair_round_metered.Goals as goal

-- the run goes on by the events of a fair round
pub invariant_of-self : goal.invariant_of-self
invariant_of-self g c =
    let v : Reading g.row.T.Denot g.row.P.Denot = reading g.T.TokenKind.kind g.P.Place.shown g.P.RecordedPlace.plain g.P.RecordedPlace.begun_at in
    let on = fair_round_on v g.P.Place.keeps g.met.P.RecordedPlace.keeps_record g.met.P.Place.limited g.M.Meter.sees c.self.inside.engine c.fair_round.new.self c.plan-plan.ensures.kept c.self.invariant.0 c.args.meter.now c.fair_round.new.meter c.args.turns.now c.fair_round.new.turns (fair_round c.args.words c.args.turns.now c.self.inside.engine.plan) c.fair_round.result c.fair_round.ensures.ends c.fair_round.ensures.plan in
    (on.kept, rw c.fair_round.ensures.plan c.self.invariant.1)

pub returns-clause-recorded : goal.returns-clause-recorded
returns-clause-recorded g c =
    let v : Reading g.row.T.Denot g.row.P.Denot = reading g.T.TokenKind.kind g.P.Place.shown g.P.RecordedPlace.plain g.P.RecordedPlace.begun_at in
    let on = fair_round_on v g.P.Place.keeps g.met.P.RecordedPlace.keeps_record g.met.P.Place.limited g.M.Meter.sees c.self.inside.engine c.fair_round.new.self c.plan-plan.ensures.kept c.self.invariant.0 c.args.meter.now c.fair_round.new.meter c.args.turns.now c.fair_round.new.turns (fair_round c.args.words c.args.turns.now c.self.inside.engine.plan) c.fair_round.result c.fair_round.ensures.ends c.fair_round.ensures.plan in
    rw (sym c.self.view_is) on.ends

pub returns-clause-metered : goal.returns-clause-metered
returns-clause-metered g c =
    let v : Reading g.row.T.Denot g.row.P.Denot = reading g.T.TokenKind.kind g.P.Place.shown g.P.RecordedPlace.plain g.P.RecordedPlace.begun_at in
    let on = fair_round_on v g.P.Place.keeps g.met.P.RecordedPlace.keeps_record g.met.P.Place.limited g.M.Meter.sees c.self.inside.engine c.fair_round.new.self c.plan-plan.ensures.kept c.self.invariant.0 c.args.meter.now c.fair_round.new.meter c.args.turns.now c.fair_round.new.turns (fair_round c.args.words c.args.turns.now c.self.inside.engine.plan) c.fair_round.result c.fair_round.ensures.ends c.fair_round.ensures.plan in
    rw (sym c.self.view_is) on.meters
