use Rattle.{c104_event.specs.declared.events.Event.Event, c104_node.proofs.PlaceSteps.err_is, c104_run.proofs.FairParts.does_one}
use Rattle.{c104_run.{proofs.{FairParts.does_one_stop, LinkOrders.other_turns}, specs.FairRounds.turned_if}, std.proofs.Common.{Bool, List}}
use Rattle.std.proofs.Common.{ap, slice_get, sym, ◌∙◌}
use Rattle.c104_run.proofs.engine.Engine.serve_in_turn.Goals as goal

pub returns-in_err-done-clause-does : goal.returns-in_err-done-clause-does
returns-in_err-done-clause-does g c = rw (err_is _ _ c.from_residual.ensures) (does_one_stop c.args.turns.now c.in_err-done.ensures.does)

pub returns-then-done-clause-does : goal.returns-then-done-clause-does
returns-then-done-clause-does g c =
    does_one c.args.turns.now c.serve.new.self c.in_ok-done.ensures.does c.in_ok-done.ensures.told
    (c.serve.ensures ∙ ap (λ (b : Bool). turned_if b c.args.turns.now (Event.Claim c.args.switch c.args.input c.args.output)) (sym c.if-done.true))

pub returns-then-done-clause-turns : goal.returns-then-done-clause-turns
returns-then-done-clause-turns g c = λ k other. ap (λ (ts : List _). slice_get ts k) c.serve.ensures ∙ other_turns c.args.turns.now c.args.switch _ k other

pub returns-else-done-clause-does : goal.returns-else-done-clause-does
returns-else-done-clause-does g c =
    does_one c.args.turns.now c.args.turns.now c.in_ok-done.ensures.does c.in_ok-done.ensures.told
    (ap (λ (b : Bool). turned_if b c.args.turns.now (Event.Claim c.args.switch c.args.input c.args.output)) (sym c.if-done.false))
