use Rattle.{c104_run.{proofs.LinkOrders.{back_absent, back_at, back_orders}, specs.LinkOrders.IsOrder}, std.proofs.Common.{List, [], ap}}
use Rattle.std.{proofs.Common.{arith, get_or, subst, sym, ℕ, ◌++◌, ◌∙◌, ◌∷◌}, specs.Prelude.remove}
use Rattle.c104_run.proofs.turns.Order.serve.Goals as goal

-- it stands behind all others
pub returns-then-position-lt-LINKS : goal.returns-then-position-lt-LINKS
returns-then-position-lt-LINKS c =
    let found = c.position-position.ensures in
    let order = subst IsOrder c.self.view_is c.self.invariant in
    c.move_to_end.ensures ∙ ap (λ (xs : List ℕ). remove xs c.position-position.result ++ get_or xs c.position-position.result 0 ∷ []) c.self.view_is
    ∙ back_at c.args.link c.args.self.now c.position-position.result (omega (arith, order.count, c.if-position-lt-LINKS.true)) found.before (found.found c.if-position-lt-LINKS.true)

pub invariant_of-self : goal.invariant_of-self
invariant_of-self c =
    let order = subst IsOrder c.self.view_is c.self.invariant in
    subst IsOrder (sym (returns-then-position-lt-LINKS c)) (back_orders c.args.link c.args.self.now order)

-- it isn't there
pub returns-else-position-lt-LINKS : goal.returns-else-position-lt-LINKS
returns-else-position-lt-LINKS c =
    let order = subst IsOrder c.self.view_is c.self.invariant in
    sym (back_absent c.args.link c.args.self.now (λ k inside. c.position-position.ensures.before k (omega (arith, inside, order.count, c.if-position-lt-LINKS.false))))
