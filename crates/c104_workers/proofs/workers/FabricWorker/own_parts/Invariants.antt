use Rattle.{c104_turns.specs.Working.IsPartEvent, std.proofs.Common.All}

-- the parts of nodes so far
abbrev pub invariant-loop-node : Rattle.c104_workers.proofs.workers.FabricWorker.own_parts.Given.invariant-loop-node
invariant-loop-node g l =
    All (λ part. All (IsPartEvent l.self.fabric.now.handed.plan l.self.count l.self.worker.number) part.events) l.parts.items
