use Rattle.c104_run.{proofs.{RecordedNets.seen_plain, RecordedViews.network_link_plain}, specs.NetViews.network_link_view}
use Rattle.{c104_run.specs.{Network.Network, RecordedNets.{Reading, reading}}, c104_token.specs.Kinds.plain_kind}
use Rattle.{c104_token.specs.declared.tokens.Token.Token, std.proofs.Common.◌∙◌}

pub returns : Rattle.c104_run.proofs.recorded_net.RecordedNet.view_link.Goals.returns
returns g c =
    let v : Reading g.row.T.Denot g.row.P.Denot = reading g.T.TokenKind.kind g.P.Place.shown g.P.RecordedPlace.plain g.P.RecordedPlace.begun_at in
    c.view_link.ensures ∙ seen_plain v g.met.P.RecordedPlace.keeps_record.reads (λ (net : Network g.row.T.Denot). network_link_view v.kind net c.args.switch c.args.link) (λ (net : Network Token). network_link_view plain_kind net c.args.switch c.args.link) (λ net. network_link_plain v.kind net c.args.switch c.args.link) c.self.inside.engine c.args.self.now c.self.view_is
