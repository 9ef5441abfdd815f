use Rattle.c104_workers.specs.Fabrics.{handed_of}
use Rattle.c104_tests_net.proofs.altered_lists.left.Given as goal

-- the word and the network that were just made ready
abbrev pub ghosts-left_of : goal.ghosts-left_of
ghosts-left_of g a = record { word = a.ready.word_id; handed = handed_of a.ready.net }
