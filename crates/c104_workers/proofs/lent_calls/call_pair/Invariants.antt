use Rattle.{c104_node.specs.Records.pair_step, c104_workers.specs.Held.{crossed_or, lent_deed}}
use Rattle.c104_workers.proofs.lent_calls.call_pair.Given as goal

-- the event, on two nodes that were lent
abbrev pub ghosts-act_pair : goal.ghosts-act_pair
ghosts-act_pair a = record { deed = lent_deed a.self.now.0.number a.event (crossed_or (pair_step a.joint a.near.now.0 a.far.now.0)) }
