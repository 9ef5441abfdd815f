use Rattle.{c104_plan.specs.declared.ports.Wire.Wire, c104_run.proofs.EndTables.{ends_counted, none_left, wire_added}}
use Rattle.{c104_run.specs.FarEnds.{end_by, ends_by, with_end}, std.proofs.Common.{List, ap, arith, drop, get_or, length, sym, ◌+◌, ◌-◌}}
use Rattle.std.proofs.Common.{◌<◌, ◌∙◌, ◌≡◌}
use Rattle.c104_run.proofs.wires.tables.add_wires.Goals as goal

pub loop-done-init : goal.loop-done-init
loop-done-init c = c.requires ∙ ap (λ (ws : List Wire). ends_by (end_by c.args.plan.now ws) (length c.args.plan.now.switches)) (sym (none_left c.wires-wires.result.now))

pub loop-done-preserved : goal.loop-done-preserved
loop-done-preserved c =
    let ws = c.wires-wires.result.now in
    let n = length c.args.plan.now.switches in
    let k = length ws - 1 - c.loop-done.done in
    let below : c.loop-done.done < length ws = c.loop-done-test.true in
    let next : length ws - c.loop-done.done ≡ k + 1 = omega (arith, below) in
    let down : k ≡ length ws - (c.loop-done.done + 1) = omega arith in
    let far = end_by c.args.plan.now (drop (length ws - c.loop-done.done) ws) in
    wire_added c.args.plan.now ws k (length ws - c.loop-done.done) _ c.end_of.result c.end_of-in-loop-done.result n c.set_end-in-loop-done.new.ends (omega (arith, below)) next c.end_of.ensures c.end_of-in-loop-done.ensures
    (c.set_end-in-loop-done.ensures.set (with_end far (get_or ws k _).there c.end_of.result) (c.set_end.ensures.set far c.loop-done.invariant))
    ∙ ap (λ j. ends_by (end_by c.args.plan.now (drop j ws)) n) down

pub set_end-requires-clause-room : goal.set_end-requires-clause-room
set_end-requires-clause-room c =
    ap length c.loop-done.invariant
    ∙ ends_counted (end_by c.args.plan.now (drop (length c.wires-wires.result.now - c.loop-done.done) c.wires-wires.result.now)) (length c.args.plan.now.switches)

pub set_end-requires-in-loop-done-clause-room : goal.set_end-requires-in-loop-done-clause-room
set_end-requires-in-loop-done-clause-room c =
    c.set_end.ensures.room ∙ ap length c.loop-done.invariant
    ∙ ends_counted (end_by c.args.plan.now (drop (length c.wires-wires.result.now - c.loop-done.done) c.wires-wires.result.now)) (length c.args.plan.now.switches)

pub returns : goal.returns
returns c =
    let zero : length c.wires-wires.result.now - c.loop-done.done ≡ 0 = omega (arith, c.loop-done-test.false) in
    c.loop-done.invariant
    ∙ ap (λ m. ends_by (end_by c.args.plan.now (drop m c.wires-wires.result.now)) (length c.args.plan.now.switches)) zero
    ∙ ap (λ (xs : List Wire). ends_by (end_by c.args.plan.now xs) (length c.args.plan.now.switches)) c.wires-wires.ensures.wires
