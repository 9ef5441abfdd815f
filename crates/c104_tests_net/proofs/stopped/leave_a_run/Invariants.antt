use Rattle.c104_workers.specs.Fabrics.{handed_of}
use Rattle.c104_tests_net.proofs.stopped.leave_a_run.Given as goal

-- the word and the network that were just made ready
abbrev pub ghosts-is_a_run : goal.ghosts-is_a_run
ghosts-is_a_run g a = record { word = a.ready.word_id; handed = handed_of a.ready.net }
