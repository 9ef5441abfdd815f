use Rattle.{c104_run.{proofs.FairRecords.fair_on, specs.RecordedNets.{Reading, reading}}, std.proofs.Common.sym}
use Rattle.c104_run.proofs.recorded_net.RecordedNet.fair_rounds.Goals as goal

-- the run goes on by the events of these rounds
pub invariant_of-self : goal.invariant_of-self
invariant_of-self g c =
    let v : Reading g.row.T.Denot g.row.P.Denot = reading g.T.TokenKind.kind g.P.Place.shown g.P.RecordedPlace.plain g.P.RecordedPlace.begun_at in
    let on = fair_on v g.P.Place.keeps g.met.P.RecordedPlace.keeps_record g.met.P.Place.limited _ c.self.inside.engine c.fair_rounds.new.self c.plan-plan.ensures.kept c.self.invariant.0 _ _ c.args.turns.now c.fair_rounds.new.turns c.args.words c.args.count c.fair_rounds.result c.fair_rounds.ensures.plan c.fair_rounds.ensures.ends in
    (on.kept, rw c.fair_rounds.ensures.plan c.self.invariant.1)

pub returns : goal.returns
returns g c =
    let v : Reading g.row.T.Denot g.row.P.Denot = reading g.T.TokenKind.kind g.P.Place.shown g.P.RecordedPlace.plain g.P.RecordedPlace.begun_at in
    let on = fair_on v g.P.Place.keeps g.met.P.RecordedPlace.keeps_record g.met.P.Place.limited _ c.self.inside.engine c.fair_rounds.new.self c.plan-plan.ensures.kept c.self.invariant.0 _ _ c.args.turns.now c.fair_rounds.new.turns c.args.words c.args.count c.fair_rounds.result c.fair_rounds.ensures.plan c.fair_rounds.ensures.ends in
    rw (sym c.self.view_is) on.ends
