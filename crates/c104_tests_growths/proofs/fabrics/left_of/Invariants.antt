use Rattle.c104_workers.specs.Fabrics.{handed_of}

-- the word and the network that were just made ready
abbrev pub ghosts-closed : Rattle.c104_tests_growths.proofs.fabrics.left_of.Given.ghosts-closed
ghosts-closed a = record { word = a.ready.word_id; handed = handed_of a.ready.net }
