use Rattle.c104_workers.specs.Fabrics.{handed_of}
use Rattle.c104_tests_net.proofs.fabric_faults.by_lent_nodes.Given as goal

-- the word and the network that were just made ready
abbrev pub ghosts-by_switch_and_terminal : goal.ghosts-by_switch_and_terminal
ghosts-by_switch_and_terminal a = record { word = a.ready.word_id; handed = handed_of a.ready.net }
