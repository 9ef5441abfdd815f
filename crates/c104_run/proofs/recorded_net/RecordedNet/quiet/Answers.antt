use Rattle.{c104_run.{proofs.RecordedBegins.{quiet_back, quiet_shown}, specs.RecordedNets.{Reading, reading}}, std.proofs.Common.sym}

pub returns : Rattle.c104_run.proofs.recorded_net.RecordedNet.quiet.Goals.returns
returns g c =
    let v : Reading g.row.T.Denot g.row.P.Denot = reading g.T.TokenKind.kind g.P.Place.shown g.P.RecordedPlace.plain g.P.RecordedPlace.begun_at in
    let reads = g.met.P.RecordedPlace.keeps_record.reads in
    rw (sym c.self.view_is) (
      λ yes. quiet_shown v reads c.self.inside.engine.places (c.is_quiet.ensures.0 yes),
      λ quiet. c.is_quiet.ensures.1 (quiet_back v reads c.self.inside.engine.places quiet),
    )
