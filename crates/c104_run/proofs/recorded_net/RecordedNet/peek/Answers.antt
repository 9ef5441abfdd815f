use Rattle.c104_run.{proofs.{RecordedNets.seen_plain, RecordedViews.network_peek_plain}, specs.Network.{Network, network_peek}}
use Rattle.{c104_run.specs.RecordedNets.{Reading, reading}, c104_token.specs.declared.tokens.Token.Token, std.proofs.Common.◌∙◌}

pub returns : Rattle.c104_run.proofs.recorded_net.RecordedNet.peek.Goals.returns
returns g c =
    let v : Reading g.row.T.Denot g.row.P.Denot = reading g.T.TokenKind.kind g.P.Place.shown g.P.RecordedPlace.plain g.P.RecordedPlace.begun_at in
    c.peek.ensures ∙ seen_plain v g.met.P.RecordedPlace.keeps_record.reads (λ (net : Network g.row.T.Denot). network_peek net c.args.switch c.args.addr) (λ (net : Network Token). network_peek net c.args.switch c.args.addr) (λ net. network_peek_plain v.kind net c.args.switch c.args.addr) c.self.inside.engine c.args.self.now c.self.view_is
