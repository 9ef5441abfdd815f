use Rattle.c104_workers.proofs.PortCommands.{commands_by}

pub returns-clause-commands : Rattle.c104_workers.proofs.ports.FabricPortControlPort.command.Goals.returns-clause-commands
returns-clause-commands g c = commands_by c.args.self.now.seat.now.0 c.command.new.seat.0 c.args.switch c.args.bytes.now c.command.result c.command.ensures.called
