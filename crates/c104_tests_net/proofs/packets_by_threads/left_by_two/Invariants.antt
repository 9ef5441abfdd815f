use Rattle.c104_workers.specs.Fabrics.{handed_of}

-- the word and the network that were just made ready
abbrev pub ghosts-left_ready : Rattle.c104_tests_net.proofs.packets_by_threads.left_by_two.Given.ghosts-left_ready
ghosts-left_ready g a = record { word = a.ready.word_id; handed = handed_of a.ready.net }
