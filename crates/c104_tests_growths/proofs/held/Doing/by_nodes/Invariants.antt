use Rattle.c104_workers.specs.Fabrics.{handed_of}

-- the word and the network that were just made ready
abbrev pub ghosts-by_seat : Rattle.c104_tests_growths.proofs.held.Doing.by_nodes.Given.ghosts-by_seat
ghosts-by_seat a = record { word = a.ready.word_id; handed = handed_of a.ready.net }
