use Rattle.c104_run.{proofs.MeteredPlaces.round_on, specs.{HandedWords.round_with, RecordedNets.{Reading, reading}}}
use Rattle.std.proofs.Common.{sym}
use Rattle.c104_run.proofs.recorded_net.RecordedNet.round_metered.Goals as goal

-- the run goes on by the events of a round
pub invariant_of-self : goal.invariant_of-self
invariant_of-self g c =
    let v : Reading g.row.T.Denot g.row.P.Denot = reading g.T.TokenKind.kind g.P.Place.shown g.P.RecordedPlace.plain g.P.RecordedPlace.begun_at in
    let on = round_on v g.P.Place.keeps g.met.P.RecordedPlace.keeps_record g.met.P.Place.limited g.M.Meter.sees c.self.inside.engine c.round.new.self c.plan-plan.ensures.kept c.args.meter.now c.round.new.meter c.self.invariant.0 (round_with c.args.words c.self.inside.engine.plan) c.round.result c.round.ensures.ends c.round.ensures.plan in
    (on.kept, rw c.round.ensures.plan c.self.invariant.1)

pub returns-clause-recorded : goal.returns-clause-recorded
returns-clause-recorded g c =
    let v : Reading g.row.T.Denot g.row.P.Denot = reading g.T.TokenKind.kind g.P.Place.shown g.P.RecordedPlace.plain g.P.RecordedPlace.begun_at in
    let on = round_on v g.P.Place.keeps g.met.P.RecordedPlace.keeps_record g.met.P.Place.limited g.M.Meter.sees c.self.inside.engine c.round.new.self c.plan-plan.ensures.kept c.args.meter.now c.round.new.meter c.self.invariant.0 (round_with c.args.words c.self.inside.engine.plan) c.round.result c.round.ensures.ends c.round.ensures.plan in
    rw (sym c.self.view_is) on.ends

pub returns-clause-metered : goal.returns-clause-metered
returns-clause-metered g c =
    let v : Reading g.row.T.Denot g.row.P.Denot = reading g.T.TokenKind.kind g.P.Place.shown g.P.RecordedPlace.plain g.P.RecordedPlace.begun_at in
    let on = round_on v g.P.Place.keeps g.met.P.RecordedPlace.keeps_record g.met.P.Place.limited g.M.Meter.sees c.self.inside.engine c.round.new.self c.plan-plan.ensures.kept c.args.meter.now c.round.new.meter c.self.invariant.0 (round_with c.args.words c.self.inside.engine.plan) c.round.result c.round.ensures.ends c.round.ensures.plan in
    rw (sym c.self.view_is) on.meters
