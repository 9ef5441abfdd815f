use Rattle.{c104_tickets.{proofs.Steps.split_keeps, specs.Tickets.{PassValue, WordValue}}, std.proofs.Common.{ap, arith, sym, ◌∙◌}}

pub split_seat-seat-requires : Rattle.c104_tickets.proofs.deed_log.DeedLog.split.Goals.split_seat-seat-requires
split_seat-seat-requires c = (
  ap (λ (p : PassValue). p.word_id) c.pass.view_is ∙ c.requires.log ∙ sym (ap (λ (w : WordValue). w.word_id) c.self.view_is),
  omega (arith, c.self.invariant.0),
  λ s rule at. (rule.0, split_keeps c.self.inside.table.shared.key rule.0 s.views rule.1 c.pass.inside.seat.id c.pass.inside.seat.me.0 at),
)
