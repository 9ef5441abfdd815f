use Rattle.c104_workers.specs.Fabrics.{handed_of}
use Rattle.c104_tests_net.proofs.fabric_faults.is_refused.Given as goal

-- the word and the network that were just made ready
abbrev pub ghosts-end : goal.ghosts-end
ghosts-end a = record { word = a.ready.word_id; handed = handed_of a.ready.net }
