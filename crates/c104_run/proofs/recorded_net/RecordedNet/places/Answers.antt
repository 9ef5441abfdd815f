use Rattle.{c104_run.specs.{NetRecords.NetRecord, RecordedNets.{IsRecordedNet, Reading, places_record, reading}}, std.proofs.Common.List}
use Rattle.std.proofs.Common.{ap, subst, sym, ◌∙◌}
use Rattle.c104_run.proofs.recorded_net.RecordedNet.places.Goals as goal

pub returns-clause-shown : goal.returns-clause-shown
returns-clause-shown g c =
    let v : Reading g.row.T.Denot g.row.P.Denot = reading g.T.TokenKind.kind g.P.Place.shown g.P.RecordedPlace.plain g.P.RecordedPlace.begun_at in
    ap (λ (ps : List g.row.P.Denot). places_record v c.args.self.now.network.plan ps c.args.self.now.count) c.places.ensures.places
    ∙ ap (λ (r : NetRecord). places_record v r.network.plan c.self.inside.engine.places r.count) (sym c.self.view_is)
    ∙ c.self.view_is

pub returns-clause-kept : goal.returns-clause-kept
returns-clause-kept g c =
    let v : Reading g.row.T.Denot g.row.P.Denot = reading g.T.TokenKind.kind g.P.Place.shown g.P.RecordedPlace.plain g.P.RecordedPlace.begun_at in
    subst (λ (r : NetRecord). IsRecordedNet v r.network.plan c.places.result.now r.count) c.self.view_is
    (subst (λ (ps : List g.row.P.Denot). IsRecordedNet v c.self.inside.engine.plan ps c.self.inside.engine.count) (sym c.places.ensures.places) c.self.invariant.0)
