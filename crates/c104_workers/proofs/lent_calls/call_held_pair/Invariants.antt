use Rattle.{c104_node.specs.Records.pair_step, c104_workers.specs.Held.{crossed_or, pair_deed}}
use Rattle.c104_workers.proofs.lent_calls.call_held_pair.Given as goal

-- the event, on the nodes at the two ends of a wire
abbrev pub ghosts-act_held_pair : goal.ghosts-act_held_pair
ghosts-act_held_pair g a = record { deed = pair_deed a.self.now.0.number a.near.now.place a.far.now.place a.event (crossed_or (pair_step a.joint a.near.now.node.0 a.far.now.node.0)) }
