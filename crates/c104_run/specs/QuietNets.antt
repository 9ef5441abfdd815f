-- Quiet networks, and a network at the start of a run.
use Rattle.{c104_node.specs.Quiet.{IsQuietNode, node_begin}, c104_run.specs.Network.{Network, with_nodes}}
use Rattle.std.specs.Prelude.{All, map}

-- the same of all nodes of a network
abbrev pub IsQuiet : {A : Type 0} → Network A → Type 0
IsQuiet net = All IsQuietNode net.nodes

-- a network at the start of a run: it stands as it did, and what was sent and what arrived is forgotten
abbrev pub network_begin : {A : Type 0} → Network A → Network A
network_begin net = with_nodes net (map node_begin net.nodes)
