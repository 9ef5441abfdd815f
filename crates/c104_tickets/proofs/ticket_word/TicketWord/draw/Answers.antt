use Rattle.{atomic_table.specs.Table.Act, c104_tickets.{proofs.Words.draws, specs.Tickets.{IsFree, PassValue, WordValue, after_draw}}}
use Rattle.std.{proofs.Common.{ap, arith, refl, subst, sym, ◌∙◌}, specs.Prelude.slice_index}

pub fetch_add-requires : Rattle.c104_tickets.proofs.ticket_word.TicketWord.draw.Goals.fetch_add-requires
fetch_add-requires g c =
    let mine = c.pass.inside.seat in
    let free : IsFree g.A.Asks.deed mine.me.0 =
    subst (IsFree g.A.Asks.deed) (sym (ap (λ (p : PassValue). p.view) c.pass.view_is)) c.requires.free in (
      ap (λ (p : PassValue). p.word_id) c.pass.view_is ∙ c.requires.word ∙ sym (ap (λ (w : WordValue). w.word_id) c.self.view_is),
      omega (arith, c.self.invariant.0),
      λ s rule homes at bound.
          let step = draws c.self.inside.table.shared.key s.words s.views rule mine.id mine.me.0 g.A.Asks.deed at free in
          (after_draw mine.me.0 g.A.Asks.deed (slice_index s.words 16), Act.keeps, tt, step.0, (refl, step.1, step.2)),
    )
