use Rattle.c104_tickets.{proofs.Words.word_closes, specs.{Tickets.{IsClosed, PassValue}, declared.views.Terms.Terms}}
use Rattle.std.proofs.Common.{subst, sym, ◌≡◌}
use lib.ListN.{get_elem?}
use mathlib.Core.Option.{some}

pub returns : Rattle.c104_tickets.proofs.ticket_word.TicketWord.close.Goals.returns
returns c =
    let last = c.close_with-closed.ensures.values.2 in
    let key = c.into_table.result.shared.key in
    let mine = c.pass.inside.seat in
    let next = subst (λ ws. get_elem? ws 16 ≡ some c.word-next.result) (sym last.2) c.word-next.ensures in
    let is = word_closes key last.0.words last.0.views last.1.0 c.word-next.result next mine.id mine.me.0 last.1.1 in
    record {
      closed = subst (λ (t : Terms). IsClosed t c.word-next.result c.args.pass.view.tracks) c.into_table.ensures.table.1
          (subst (λ (p : PassValue). IsClosed key c.word-next.result p.view.tracks) c.pass.view_is is);
    }
