use Rattle.c104_workers.specs.Fabrics.{handed_of}

-- the word and the network that were just made ready
abbrev pub ghosts-by_workers : Rattle.c104_tests_growths.proofs.fabrics.WorkingSharing.call.Given.ghosts-by_workers
ghosts-by_workers g a = record { word = a.ready.word_id; handed = handed_of a.ready.net }
