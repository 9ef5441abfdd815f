use Rattle.{c104_plan.specs.Plans.IsPlan, c104_run.proofs.{PortWalks.round_walked, RecordedNets.seen_plain}}
use Rattle.c104_run.{proofs.{RecordedViews.have_reasons_plain, StillParts.{reasons_where, stands_where}}, specs.Engines.engine_network}
use Rattle.c104_run.specs.{NetRecords.{IsNetRecord, NetRecord}, Network.Network, RecordedNets.{Reading, reading}, Rounds.round}
use Rattle.{c104_run.specs.Standstill.have_reasons, c104_token.specs.{Kinds.plain_kind, declared.tokens.Token.Token}, std.proofs.Common.ap}
use Rattle.std.proofs.Common.{subst, sym, ◌∙◌, ◌≡◌}

pub returns : Rattle.c104_run.proofs.recorded_net.RecordedNet.stands_still.Goals.returns
returns g c =
    let v : Reading g.row.T.Denot g.row.P.Denot = reading g.T.TokenKind.kind g.P.Place.shown g.P.RecordedPlace.plain g.P.RecordedPlace.begun_at in
    let kept : IsNetRecord c.args.self.now = subst IsNetRecord c.self.view_is c.self.invariant.0.kept in
    let is_plan : IsPlan c.args.self.now.network.plan = subst (λ (r : NetRecord). IsPlan r.network.plan) c.self.view_is c.plan-plan.ensures.kept in
    let told : c.stands_still.result ≡ have_reasons c.args.self.now.network (round c.args.self.now.network.plan) =
    c.stands_still.ensures ∙ ap (have_reasons (engine_network v.shown c.self.inside.engine)) (sym (round_walked c.self.inside.engine.plan)) ∙ seen_plain v g.met.P.RecordedPlace.keeps_record.reads (λ (net : Network g.row.T.Denot). have_reasons net (round net.plan)) (λ (net : Network Token). have_reasons net (round net.plan)) (λ net. have_reasons_plain v.kind net (round net.plan)) c.self.inside.engine c.args.self.now c.self.view_is in (
      λ yes. stands_where plain_kind c.args.self.now.network is_plan kept.steady (sym told ∙ yes),
      λ all. told ∙ reasons_where plain_kind c.args.self.now.network is_plan kept.steady all,
    )
