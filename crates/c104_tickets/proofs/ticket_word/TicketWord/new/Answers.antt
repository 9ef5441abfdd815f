use Rattle.c104_tickets.proofs.Words.{word_begins}

pub of_words-requires : Rattle.c104_tickets.proofs.ticket_word.TicketWord.new.Goals.of_words-requires
of_words-requires c = word_begins c.args.terms c.requires.first c.requires.seats
