use Rattle.{c104_control.specs.declared.commands.Command.TheVariants.CPoke, c104_tools.proofs.Asking.{err_is, leaves_none, leaves_on}}
use Rattle.c104_tools.{proofs.{Asking.{leaves_stop, one_done, one_fails}, Rests.{mapped_next, mapped_none}}, specs.Loads.{order, pokes}}
use Rattle.{c104_tools.specs.Outcomes.any_value, std.proofs.Common.{[], arith, drop, get_or, refl, ℕ, ◌+◌, ◌∷◌}}
use Rattle.c104_tools.proofs.loading.poke_values.Goals as goal

pub loop-entry-preserved : goal.loop-entry-preserved
loop-entry-preserved g c =
    let i = c.loop-entry.entry-index in
    let values = c.args.values.now in
    let poke = λ (x : ℕ × ℕ). order c.args.switch (CPoke x.0 x.1) in
    leaves_on _ any_value _ _ _ _ _ (poke (get_or values i (0, 0)) ∷ []) (pokes c.args.switch (drop (i + 1) values))
    (mapped_next poke values i (0, 0) c.loop-entry-test.true) c.loop-entry.invariant
    (one_done _ any_value (poke (get_or values i (0, 0))) _ _ c.in_ok-ask.field-0 c.in_ok-ask.field-0 c.in_ok-ask.ensures.asked refl)

pub returns-in_err-ask-clause-asked : goal.returns-in_err-ask-clause-asked
returns-in_err-ask-clause-asked g c =
    let i = c.loop-entry.entry-index in
    let values = c.args.values.now in
    let poke = λ (x : ℕ × ℕ). order c.args.switch (CPoke x.0 x.1) in
    let f = c.in_err-ask.field-0.0 in
    leaves_stop _ any_value _ _ _ _ _ (poke (get_or values i (0, 0)) ∷ []) (pokes c.args.switch (drop (i + 1) values))
    (mapped_next poke values i (0, 0) c.loop-entry-test.true) c.loop-entry.invariant
    c.from_residual.result f (err_is _ f c.from_residual.ensures) (one_fails _ any_value (poke (get_or values i (0, 0))) _ _ f c.in_err-ask.ensures.asked)

pub returns-clause-asked : goal.returns-clause-asked
returns-clause-asked g c =
    leaves_none _ any_value _ _ _ _ (mapped_none (λ (x : ℕ × ℕ). order c.args.switch (CPoke x.0 x.1)) c.args.values.now c.loop-entry.entry-index (omega (arith, c.loop-entry-test.false))) c.loop-entry.invariant
