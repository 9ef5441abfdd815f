use Rattle.{c104_turns.specs.Working.IsPartOf, c104_workers.proofs.SeatWork.own_parts, std.proofs.Common.subst}
use Rattle.c104_workers.proofs.workers.FabricWorker.own_parts.Goals.{else-owns, then-owns+in_ok-of_round+in_ok-push}

pub loop-node-preserved : Rattle.c104_workers.proofs.workers.FabricWorker.own_parts.Goals.loop-node-preserved
loop-node-preserved g c =
    let own = c.args.self.now in
    elim c.if-owns.branch [
      | then-owns+in_ok-of_round+in_ok-push w ↦
          rw (w.parts-is, w.in_ok-push.ensures.items)
          (own_parts own.fabric.now.handed.plan own.count own.worker.number c.loop-node.node c.loop-node.parts.items w.in_ok-of_round.field-0
          c.loop-node.invariant
          (subst (λ plan. IsPartOf plan c.loop-node.node w.in_ok-of_round.field-0) w.wires.ensures w.in_ok-of_round.ensures)
          w.if-owns.ensures)
      | else-owns w ↦ rw w.parts-is c.loop-node.invariant
    ]
