use Rattle.{c104_lean.proofs.SeatWork.{own_more, part_at}, std.proofs.Common.arith}
use Rattle.c104_lean.proofs.workers.Worker.own_parts.Goals.{else-owner-self, then-owner-self+in_ok-push}

pub loop-part-preserved : Rattle.c104_lean.proofs.workers.Worker.own_parts.Goals.loop-part-preserved
loop-part-preserved g c =
    let own = c.args.self.now in
    let plan = own.shared.now.before.plan in
    let part = c.part-item.result in
    elim c.if-owner-self.branch [
      | then-owner-self+in_ok-push w ↦
          rw (w.own-is, w.in_ok-push.ensures.items)
          (own_more plan own.count own.number c.loop-part.own.items _ c.node.result c.owner.result c.loop-part.invariant
          (part_at plan _ c.loop-part.part-index part c.parts-part-items.ensures (omega arith) c.part-item.is)
          c.node.ensures c.owner.ensures w.if-owner-self.true)
      | else-owner-self w ↦ rw w.own-is c.loop-part.invariant
    ]
