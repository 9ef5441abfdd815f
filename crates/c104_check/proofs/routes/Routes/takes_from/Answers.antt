use Rattle.c104_check.{proofs.{ReachLemmas.{all_taken, all_taken_next, takes_none}, Walked.met_at}, specs.Reach.MayTake}
use Rattle.{c104_check.specs.{Routes.SwitchPort, Trails.routes_in}, std.proofs.Common.{false, refl, slice_index_or, true, ◌≡◌}}
use Rattle.c104_check.proofs.routes.Routes.takes_from.Goals as goal

pub returns-then-may_take : goal.returns-then-may_take
returns-then-may_take c =
    let xs = c.args.inputs.now in
    let port : SwitchPort = record { switch = 0; link = 0 } in
    let met = met_at xs xs c.loop-input.input-index port refl c.loop-input-test.true in
    (λ holds. (slice_index_or xs c.loop-input.input-index port, met, c.if-may_take.ensures.0 refl), λ taken. refl)

pub loop-input-preserved : goal.loop-input-preserved
loop-input-preserved c =
    let port : SwitchPort = record { switch = 0; link = 0 } in
    all_taken_next (λ p. MayTake (routes_in c.args.self.now) c.args.header p c.args.link → ⊥) c.args.inputs.now c.loop-input.input-index port c.loop-input-test.true
    (λ may. let clash : false ≡ true = c.if-may_take.ensures.1 may in cc)
    c.loop-input.invariant

pub returns : goal.returns
returns c =
    let none = all_taken (λ p. MayTake (routes_in c.args.self.now) c.args.header p c.args.link → ⊥) c.args.inputs.now c.loop-input.input-index c.loop-input-test.false c.loop-input.invariant in
    (λ holds. let clash : false ≡ true = holds in absurd cc, λ taken. absurd (takes_none (routes_in c.args.self.now) c.args.header c.args.inputs.now c.args.link none taken))
