use Rattle.c104_workers.specs.Fabrics.{handed_of}
use Rattle.c104_tests_net.proofs.debuggers.is_beside.Given as goal

-- the word and the network that were just made ready
abbrev pub ghosts-work_and_close : goal.ghosts-work_and_close
ghosts-work_and_close g a = record { word = a.ready.word_id; handed = handed_of a.ready.net }
