use Rattle.{c104_tools.proofs.NetSwitches.switches_counted, std.proofs.Common.length}

-- as many switches are shown as the plan has
pub returns-clause-shown : Rattle.c104_tools.proofs.nets.RecordedNetControlPort.switches.Goals.returns-clause-shown
returns-clause-shown g c =
    let net = c.args.self.now in
    switches_counted (length net.network.plan.switches) (length net.network.plan.terminals) net.network.nodes c.told_plan.ensures.told.steady.in_place
