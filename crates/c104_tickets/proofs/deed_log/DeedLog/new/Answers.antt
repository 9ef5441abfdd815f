use Rattle.{c104_tickets.proofs.Begins.begins, std.proofs.Common.[]}

pub of_words-requires : Rattle.c104_tickets.proofs.deed_log.DeedLog.new.Goals.of_words-requires
of_words-requires c = ([], begins c.args.terms c.requires.first c.requires.seats)
