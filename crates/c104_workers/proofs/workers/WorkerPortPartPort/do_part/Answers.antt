use Rattle.{c104_workers.proofs.SeatWork.part_done, std.proofs.Common.length}

pub returns : Rattle.c104_workers.proofs.workers.WorkerPortPartPort.do_part.Goals.returns
returns g c = λ own. part_done (λ p. p.seat.ghost_name) (λ p. p.own.now) (λ p. p.seat.now.0) (λ b. b.fabric.now.handed.plan)
    (λ b. b.worker) (λ b. b.count) _ (λ p. length p.seat.now.0.calls) (λ p part stage numbers. Unit {0}) c.args.part.now
    c.do_part.result _ own c.do_part.ensures
