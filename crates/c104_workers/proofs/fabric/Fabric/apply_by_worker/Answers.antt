use Rattle.c104_workers.proofs.SeatGrowth.{same_seat}
use Rattle.c104_workers.proofs.fabric.Fabric.apply_by_worker.Goals as goal

-- an event of one node
pub returns-in-None-clause-fault : goal.returns-in-None-clause-fault
returns-in-None-clause-fault g c = rw c.in_ok-lower.ensures.fault c.apply_to_one.ensures.fault

pub returns-in-None-clause-grew : goal.returns-in-None-clause-grew
returns-in-None-clause-grew g c = c.apply_to_one.ensures.grew

pub returns-in-None-clause-same : goal.returns-in-None-clause-same
returns-in-None-clause-same g c = same_seat c.args.seat.now.0 c.apply_to_one.new.seat.0 c.args.event.now c.apply_to_one.result c.apply_to_one.ensures.grew

-- an event of the two nodes at the ends of a wire
pub returns-clause-fault : goal.returns-clause-fault
returns-clause-fault g c = rw c.in_ok-lower.ensures.fault c.apply_to_two.ensures.fault

pub returns-clause-grew : goal.returns-clause-grew
returns-clause-grew g c = c.apply_to_two.ensures.grew

pub returns-clause-same : goal.returns-clause-same
returns-clause-same g c = same_seat c.args.seat.now.0 c.apply_to_two.new.seat.0 c.args.event.now c.apply_to_two.result c.apply_to_two.ensures.grew
