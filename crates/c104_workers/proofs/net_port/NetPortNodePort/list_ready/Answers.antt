use Rattle.c104_workers.proofs.NetPorts.{none_listed}
use Rattle.c104_workers.proofs.net_port.NetPortNodePort.list_ready.Goals as goal

pub returns-in-None : goal.returns-in-None
returns-in-None c =
    none_listed c.args.self.now.net.now c.told_plan-plan.ensures.told c.args.part.now c.args.stage c.clear.new.self.items _
    c.node.ensures c.in-None.ensures.node c.clear.ensures.items
