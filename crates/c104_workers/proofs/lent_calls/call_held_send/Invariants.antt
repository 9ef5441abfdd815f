use Rattle.{c104_node.specs.Records.recorded_step, c104_workers.specs.Held.{node_deed, told_or}}
use Rattle.c104_workers.proofs.lent_calls.call_held_send.Given as goal

-- the event, on the node at its place
abbrev pub ghosts-act_held : goal.ghosts-act_held
ghosts-act_held g a = record { deed = node_deed a.self.now.0.number a.held.now.place a.event (told_or (recorded_step a.held.now.node.0 a.act)) }
