use Rattle.c104_run.{proofs.RecordedBegins.{net_begun, net_begun_kept, quiet_back}, specs.{Engines.engine_record, NetRecords.NetRecord}}
use Rattle.c104_run.specs.{NetRecords.fresh_record, QuietNets.{IsQuiet, network_begin}, RecordedNets.{Reading, reading}}
use Rattle.std.proofs.Common.{ap, subst, sym, ◌∙◌}
use Rattle.c104_run.proofs.recorded_net.RecordedNet.begin.Goals as goal

pub begin-requires : goal.begin-requires
begin-requires g c =
    let v : Reading g.row.T.Denot g.row.P.Denot = reading g.T.TokenKind.kind g.P.Place.shown g.P.RecordedPlace.plain g.P.RecordedPlace.begun_at in
    let quiet : IsQuiet (engine_record v c.self.inside.engine).network = subst (λ (r : NetRecord). IsQuiet r.network) (sym c.self.view_is) (c.quiet.ensures.0 c.if-not-quiet.false) in
    quiet_back v g.met.P.RecordedPlace.keeps_record.reads c.self.inside.engine.places quiet

pub invariant_of-self : goal.invariant_of-self
invariant_of-self g c =
    let v : Reading g.row.T.Denot g.row.P.Denot = reading g.T.TokenKind.kind g.P.Place.shown g.P.RecordedPlace.plain g.P.RecordedPlace.begun_at in (
      rw (c.begin.ensures.plan, c.begin.ensures.count) (net_begun_kept v g.met.P.RecordedPlace.keeps_record.reads c.self.inside.engine.plan c.begin.new.self.places c.self.inside.engine.places c.begin.ensures.begun c.begin.ensures.stand c.self.invariant.0.kept.steady),
      rw c.begin.ensures.plan c.self.invariant.1,
    )

pub returns-clause-begun : goal.returns-clause-begun
returns-clause-begun g c =
    let v : Reading g.row.T.Denot g.row.P.Denot = reading g.T.TokenKind.kind g.P.Place.shown g.P.RecordedPlace.plain g.P.RecordedPlace.begun_at in
    rw (c.begin.ensures.plan, c.begin.ensures.count)
    (net_begun v g.met.P.RecordedPlace.keeps_record.reads c.self.inside.engine.plan c.begin.new.self.places c.self.inside.engine.places c.begin.ensures.begun ∙ ap (λ (r : NetRecord). fresh_record (network_begin r.network)) c.self.view_is)
