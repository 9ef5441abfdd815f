use Rattle.{c104_node.specs.Records.recorded_step, c104_workers.specs.Held.{lent_deed, told_or}}
use Rattle.c104_workers.proofs.lent_calls.call_node.Given as goal

-- the event, on a node that was lent
abbrev pub ghosts-act : goal.ghosts-act
ghosts-act a = record { deed = lent_deed a.self.now.0.number a.event (told_or (recorded_step a.node.now.0 a.act)) }
