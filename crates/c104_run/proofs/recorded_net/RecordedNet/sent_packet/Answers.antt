use Rattle.c104_run.{proofs.{RecordedNets.seen_plain, RecordedViews.network_sent_plain}, specs.NetViews.network_sent_packet}
use Rattle.{c104_run.specs.{Network.Network, RecordedNets.{Reading, reading}}, c104_token.specs.declared.tokens.Token.Token}
use Rattle.std.proofs.Common.{◌∙◌}

pub returns : Rattle.c104_run.proofs.recorded_net.RecordedNet.sent_packet.Goals.returns
returns g c =
    let v : Reading g.row.T.Denot g.row.P.Denot = reading g.T.TokenKind.kind g.P.Place.shown g.P.RecordedPlace.plain g.P.RecordedPlace.begun_at in
    c.sent_packet.ensures ∙ seen_plain v g.met.P.RecordedPlace.keeps_record.reads (λ (net : Network g.row.T.Denot). network_sent_packet net c.args.terminal c.args.number) (λ (net : Network Token). network_sent_packet net c.args.terminal c.args.number) (λ net. network_sent_plain v.kind net c.args.terminal c.args.number) c.self.inside.engine c.args.self.now c.self.view_is
