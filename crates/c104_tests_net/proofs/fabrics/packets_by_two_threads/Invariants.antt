use Rattle.c104_workers.specs.Fabrics.{handed_of}
use Rattle.c104_tests_net.proofs.fabrics.packets_by_two_threads.Given as goal

-- the word and the network that were just made ready
abbrev pub ghosts-run_two : goal.ghosts-run_two
ghosts-run_two g a = record { word = a.ready.word_id; handed = handed_of a.ready.net }
