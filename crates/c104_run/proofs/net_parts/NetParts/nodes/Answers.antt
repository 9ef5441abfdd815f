use Rattle.{c104_node.specs.Records.{NodeRecord, NodeRoom}, c104_run.{proofs.NodeRuns.parts_tell, specs.{NetParts.Parts, NodeRuns.TellRun}}}
use Rattle.std.proofs.Common.{List, subst, sym}

pub returns-clause-run : Rattle.c104_run.proofs.net_parts.NetParts.nodes.Goals.returns-clause-run
returns-clause-run c =
    let p : Parts = record { plan = c.self.inside.wires; nodes = c.self.inside.nodes.items; count = c.self.inside.count } in
    subst (λ (q : Parts). TellRun q.plan c.as_slice.result.now q.count) c.self.view_is
    (subst (λ (ns : List (NodeRecord × NodeRoom)). TellRun p.plan ns p.count) (sym c.as_slice.ensures.value) (parts_tell p c.self.invariant))
