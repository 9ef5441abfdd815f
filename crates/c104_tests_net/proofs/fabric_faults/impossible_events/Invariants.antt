use Rattle.c104_workers.specs.Fabrics.{handed_of}
use Rattle.c104_tests_net.proofs.fabric_faults.impossible_events.Given as goal

-- the word and the network that were just made ready
abbrev pub ghosts-are_refused : goal.ghosts-are_refused
ghosts-are_refused g a = record { word = a.ready.word_id; handed = handed_of a.ready.net }
