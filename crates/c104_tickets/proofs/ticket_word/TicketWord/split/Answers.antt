use Rattle.{c104_tickets.{proofs.Words.word_splits, specs.Tickets.{PassValue, WordValue}}, std.proofs.Common.{ap, arith, sym, ◌∙◌}}

pub split_seat-seat-requires : Rattle.c104_tickets.proofs.ticket_word.TicketWord.split.Goals.split_seat-seat-requires
split_seat-seat-requires c = (
  ap (λ (p : PassValue). p.word_id) c.pass.view_is ∙ c.requires.word ∙ sym (ap (λ (w : WordValue). w.word_id) c.self.view_is),
  omega (arith, c.self.invariant.0),
  λ s rule at. word_splits c.self.inside.table.shared.key s.words s.views rule c.pass.inside.seat.id c.pass.inside.seat.me.0 at,
)
