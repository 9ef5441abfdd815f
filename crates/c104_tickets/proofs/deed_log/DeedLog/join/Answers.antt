use Rattle.{c104_tickets.{proofs.Steps.join_keeps, specs.Tickets.{PassValue, WordValue}}, std.proofs.Common.{ap, arith, sym, ◌∙◌}}

pub join_seat-requires : Rattle.c104_tickets.proofs.deed_log.DeedLog.join.Goals.join_seat-requires
join_seat-requires c =
    let mine = c.pass.inside.seat in
    let theirs = c.other.inside.seat in (
      ap (λ (p : PassValue). p.word_id) c.pass.view_is ∙ c.requires.log.0 ∙ sym (ap (λ (w : WordValue). w.word_id) c.self.view_is),
      ap (λ (p : PassValue). p.word_id) c.other.view_is ∙ c.requires.log.1 ∙ sym (ap (λ (w : WordValue). w.word_id) c.self.view_is),
      c.other.invariant,
      omega (arith, c.self.invariant.0),
      λ s rule at differs at_other. (
        rule.0,
        join_keeps c.self.inside.table.shared.key rule.0 s.views rule.1 mine.id mine.me.0 theirs.id theirs.me.0 at at_other differs,
      ),
    )
