use Rattle.c104_run.{proofs.{RecordedNets.seen_plain, RecordedViews.network_terminal_plain}, specs.NetViews.network_terminal_view}
use Rattle.{c104_run.specs.{Network.Network, RecordedNets.{Reading, reading}}, c104_token.specs.declared.tokens.Token.Token}
use Rattle.std.proofs.Common.{◌∙◌}

pub returns : Rattle.c104_run.proofs.recorded_net.RecordedNet.view_terminal.Goals.returns
returns g c =
    let v : Reading g.row.T.Denot g.row.P.Denot = reading g.T.TokenKind.kind g.P.Place.shown g.P.RecordedPlace.plain g.P.RecordedPlace.begun_at in
    c.view_terminal.ensures ∙ seen_plain v g.met.P.RecordedPlace.keeps_record.reads (λ (net : Network g.row.T.Denot). network_terminal_view net c.args.terminal) (λ (net : Network Token). network_terminal_view net c.args.terminal) (λ net. network_terminal_plain v.kind net c.args.terminal) c.self.inside.engine c.args.self.now c.self.view_is
