use Rattle.c104_workers.specs.Fabrics.{handed_of}

-- the word and the network that were just made ready
abbrev pub ghosts-done : Rattle.c104_tests_growths.proofs.fabrics.DoingSharing.call.Given.ghosts-done
ghosts-done g a = record { word = a.ready.word_id; handed = handed_of a.ready.net }
