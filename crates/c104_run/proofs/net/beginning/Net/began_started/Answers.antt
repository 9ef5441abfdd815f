use Rattle.{c104_node.specs.{Records.{NodeRecord, NodeRoom, node_start}, Starts.IsStartedStart}, std.proofs.Common.{All, IsTrue, List, map}}
use Rattle.std.proofs.Common.{subst, sym, ◌↔◌}

pub returns : Rattle.c104_run.proofs.net.beginning.Net.began_started.Goals.returns
returns c = rw (sym c.self.view_is) (subst (λ (ns : List (NodeRecord × NodeRoom)). IsTrue c.are_started.result ↔ All IsStartedStart (map node_start ns)) c.places.ensures.places c.are_started.ensures)
