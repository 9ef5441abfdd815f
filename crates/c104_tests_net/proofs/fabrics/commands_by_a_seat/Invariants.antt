use Rattle.c104_workers.specs.Fabrics.{handed_of}
use Rattle.c104_tests_net.proofs.fabrics.commands_by_a_seat.Given as goal

-- the word and the network that were just made ready
abbrev pub ghosts-ask_and_close : goal.ghosts-ask_and_close
ghosts-ask_and_close g a = record { word = a.ready.word_id; handed = handed_of a.ready.net }
