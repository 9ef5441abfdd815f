use Rattle.c104_run.{proofs.{MeteredSteps.stage_ends, RecordedPlaces.runs_on}, specs.{HandedWords.rounds_with, RecordedNets.Reading}}
use Rattle.{c104_run.specs.RecordedNets.reading, std.proofs.Common.sym}
use Rattle.c104_run.proofs.recorded_net.RecordedNet.rounds_watched.Goals as goal

-- the run goes on by the events of these rounds
pub invariant_of-self : goal.invariant_of-self
invariant_of-self g c =
    let v : Reading g.row.T.Denot g.row.P.Denot = reading g.T.TokenKind.kind g.P.Place.shown g.P.RecordedPlace.plain g.P.RecordedPlace.begun_at in
    let on = runs_on v g.P.Place.keeps g.met.P.RecordedPlace.keeps_record g.met.P.Place.limited c.self.inside.engine c.rounds.new.self c.plan-plan.ensures.kept c.self.invariant.0 (rounds_with c.args.words c.self.inside.engine.plan c.args.count) c.rounds.result (stage_ends g.T.TokenKind.kind g.P.Place.keeps _ _ _ _ _ c.rounds.ensures.ends) c.rounds.ensures.plan in
    (on.kept, rw c.rounds.ensures.plan c.self.invariant.1)

pub returns : goal.returns
returns g c =
    let v : Reading g.row.T.Denot g.row.P.Denot = reading g.T.TokenKind.kind g.P.Place.shown g.P.RecordedPlace.plain g.P.RecordedPlace.begun_at in
    let on = runs_on v g.P.Place.keeps g.met.P.RecordedPlace.keeps_record g.met.P.Place.limited c.self.inside.engine c.rounds.new.self c.plan-plan.ensures.kept c.self.invariant.0 (rounds_with c.args.words c.self.inside.engine.plan c.args.count) c.rounds.result (stage_ends g.T.TokenKind.kind g.P.Place.keeps _ _ _ _ _ c.rounds.ensures.ends) c.rounds.ensures.plan in
    rw (sym c.self.view_is) on.ends
