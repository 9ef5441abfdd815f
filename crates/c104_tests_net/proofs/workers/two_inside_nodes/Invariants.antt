use Rattle.c104_workers.specs.Fabrics.{handed_of}
use Rattle.c104_tests_net.proofs.workers.two_inside_nodes.Given as goal

-- the word and the network that were just made ready
abbrev pub ghosts-one_turn : goal.ghosts-one_turn
ghosts-one_turn g a = record { word = a.ready.word_id; handed = handed_of a.ready.net }
