use Rattle.c104_run.{proofs.LinkOrders.{BothOrders, orders_served}, specs.FairRounds.{SwitchTurns, served, turns_of}}
use Rattle.std.proofs.{Common.{List, ap, slice_set, subst, sym, ℕ, ◌∙◌}, lemmas.List.length-set}
use Rattle.c104_run.proofs.turns.Turns.serve.Goals as goal

pub returns-then-switch-lt-MAX_SWITCHES : goal.returns-then-switch-lt-MAX_SWITCHES
returns-then-switch-lt-MAX_SWITCHES c =
    ap (λ (xs : List SwitchTurns). slice_set xs c.args.switch c.serve.new.self) c.self.view_is
    ∙ ap (slice_set c.args.self.now c.args.switch) (c.serve.ensures ∙ ap (served c.args.input c.args.output) c.of-turns.ensures.is)

-- each order stays one
pub invariant_of-self : goal.invariant_of-self
invariant_of-self c = (
  length-set c.self.inside.switches c.args.switch c.serve.new.self ∙ c.self.invariant.0,
  subst (λ (xs : List SwitchTurns). (s : ℕ) → BothOrders (turns_of xs s)) (sym (returns-then-switch-lt-MAX_SWITCHES c)) (orders_served c.args.self.now c.args.switch c.args.input c.args.output c.of-turns.ensures.orders),
)
