-- the word that was just made, and the network that is shared
abbrev pub ghosts-storm_ready : Rattle.c104_storm.proofs.storms.storm_net.Given.ghosts-storm_ready
ghosts-storm_ready g a = record { word = a.ready.word_id; before = a.ready.before }
