use Rattle.{atomic_table.specs.Table.Act, c104_tickets.{proofs.Steps.{append_keeps, appended}, specs.Tickets.{IsFree, PassValue}}}
use Rattle.{c104_tickets.specs.Tickets.{WordValue, after_draw}, std.proofs.Common.{[], ap, arith, length, refl, subst, sym, ◌++◌, ◌+◌, ◌∙◌}}
use Rattle.std.proofs.Common.{◌∷◌}

pub load-requires : Rattle.c104_tickets.proofs.deed_log.DeedLog.append.Goals.load-requires
load-requires g c =
    let mine = c.pass.inside.seat in
    let terms = c.self.inside.table.shared.key in
    let deed = g.A.Asks.deed in
    let free : IsFree deed mine.me.0 = subst (IsFree deed) (sym (ap (λ (p : PassValue). p.view) c.pass.view_is)) c.requires.free in (
      ap (λ (p : PassValue). p.word_id) c.pass.view_is ∙ c.requires.log ∙ sym (ap (λ (w : WordValue). w.word_id) c.self.view_is),
      omega (arith, c.self.invariant.0),
      λ s rule homes at bound. (
        after_draw mine.me.0 deed (terms.first + length rule.0),
        Act.keeps,
        tt,
        (
          rule.0 ++ record { ticket = terms.first + length rule.0; deed = deed } ∷ [],
          append_keeps terms rule.0 s.views rule.1 mine.id mine.me.0 deed at free,
        ),
        (refl, appended terms rule.0 s.views rule.1 mine.id mine.me.0 deed at),
      ),
    )
