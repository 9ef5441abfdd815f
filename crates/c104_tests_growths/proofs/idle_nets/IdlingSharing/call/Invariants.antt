use Rattle.c104_workers.specs.Fabrics.{handed_of}

-- the word and the network that were just made ready
abbrev pub ghosts-idled : Rattle.c104_tests_growths.proofs.idle_nets.IdlingSharing.call.Given.ghosts-idled
ghosts-idled g a = record { word = a.ready.word_id; handed = handed_of a.ready.net }
