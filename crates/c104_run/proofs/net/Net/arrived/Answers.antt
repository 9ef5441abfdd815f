use Rattle.{c104_node.specs.{Nodes.Node, Places.Shown, Records.node_shown}, c104_run.proofs.FirstRecords.map_twice}
use Rattle.{c104_run.specs.{NetRecords.NetRecord, Network.{network_arrived, network_of}}, c104_token.specs.declared.tokens.Token.Token}
use Rattle.std.proofs.Common.{List, ap, ◌∙◌}

pub returns : Rattle.c104_run.proofs.net.Net.arrived.Goals.returns
returns c =
    c.arrived.ensures
    ∙ ap (λ (ns : List (Node Token)). network_arrived (network_of c.self.inside.engine.plan ns) c.args.terminal) (map_twice (λ (s : Shown Token). s.state) node_shown c.self.inside.engine.places)
    ∙ ap (λ (r : NetRecord). network_arrived r.network c.args.terminal) c.self.view_is
