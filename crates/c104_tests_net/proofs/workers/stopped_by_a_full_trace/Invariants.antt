use Rattle.c104_workers.specs.Fabrics.{handed_of}
use Rattle.c104_tests_net.proofs.workers.stopped_by_a_full_trace.Given as goal

-- the word and the network that were just made ready
abbrev pub ghosts-end_of_a_turn : goal.ghosts-end_of_a_turn
ghosts-end_of_a_turn g a = record { word = a.ready.word_id; handed = handed_of a.ready.net }
