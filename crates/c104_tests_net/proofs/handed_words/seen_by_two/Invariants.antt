use Rattle.c104_workers.specs.Fabrics.{handed_of}
use Rattle.c104_tests_net.proofs.handed_words.seen_by_two.Given as goal

-- the word and the network that were just made ready
abbrev pub ghosts-seen_of_run : goal.ghosts-seen_of_run
ghosts-seen_of_run g a = record { word = a.ready.word_id; handed = handed_of a.ready.net }
