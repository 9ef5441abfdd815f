use Rattle.c104_workers.specs.Fabrics.{handed_of}
use Rattle.c104_tests_net.proofs.workers.no_turns.Given as goal

-- the word and the network that were just made ready
abbrev pub ghosts-after_no_turns : goal.ghosts-after_no_turns
ghosts-after_no_turns g a = record { word = a.ready.word_id; handed = handed_of a.ready.net }
