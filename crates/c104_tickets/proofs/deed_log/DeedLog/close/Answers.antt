use Rattle.c104_tickets.{proofs.Steps.closes, specs.{Tickets.{IsClosedLog, PassValue}, declared.views.Terms.Terms}}
use Rattle.std.proofs.Common.{length, refl, subst, ◌+◌}

pub returns : Rattle.c104_tickets.proofs.deed_log.DeedLog.close.Goals.returns
returns c =
    let last = c.close_with.ensures.values.2 in
    let key = c.into_table.result.shared.key in
    let mine = c.pass.inside.seat in
    let log = last.1.0.0 in
    let is = closes key log last.0.views last.1.0.1 (key.first + length log) refl mine.id mine.me.0 last.1.1 in
    record {
      closed = subst (λ (t : Terms). IsClosedLog t c.args.pass.view.tracks) c.into_table.ensures.table.1
          (subst (λ (p : PassValue). IsClosedLog key p.view.tracks) c.pass.view_is (key.first + length log, is));
    }
