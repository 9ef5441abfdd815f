use Rattle.{c104_tickets.{proofs.Words.word_joins, specs.Tickets.{PassValue, WordValue}}, std.proofs.Common.{ap, arith, sym, ◌∙◌}}

pub join_seat-requires : Rattle.c104_tickets.proofs.ticket_word.TicketWord.join.Goals.join_seat-requires
join_seat-requires c =
    let mine = c.pass.inside.seat in
    let theirs = c.other.inside.seat in (
      ap (λ (p : PassValue). p.word_id) c.pass.view_is ∙ c.requires.word.0 ∙ sym (ap (λ (w : WordValue). w.word_id) c.self.view_is),
      ap (λ (p : PassValue). p.word_id) c.other.view_is ∙ c.requires.word.1 ∙ sym (ap (λ (w : WordValue). w.word_id) c.self.view_is),
      c.other.invariant,
      omega (arith, c.self.invariant.0),
      λ s rule at differs at_other.
          word_joins c.self.inside.table.shared.key s.words s.views rule mine.id mine.me.0 theirs.id theirs.me.0 at at_other differs,
    )
