use Rattle.{c104_commands.{proofs.LeftLemmas.{left_next, left_stops}, specs.LeftRows.Takes}, std.proofs.Common.{Bool, Bor, List, get_or}}
use Rattle.std.proofs.Common.{subst, ℕ}
use Rattle.c104_commands.proofs.left_rows.take_all.Goals as goal

pub returns-then-not-branch : goal.returns-then-not-branch
returns-then-not-branch c =
    left_stops c.args.ports.now c.loop-number.number _ c.loop-number-test.true c.loop-number.left c.args.left.now c.loop-number.invariant c.take_one.new.left
    (subst (Takes c.loop-number.left (get_or c.args.ports.now c.loop-number.number _).now c.take_one.new.left) c.if-not-branch.true c.in_ok-take_one.ensures)

pub loop-number-preserved : goal.loop-number-preserved
loop-number-preserved c =
    left_next c.args.ports.now c.loop-number.number _ c.loop-number-test.true c.loop-number.left c.args.left.now c.loop-number.invariant c.take_one.new.left
    (subst (Takes c.loop-number.left (get_or c.args.ports.now c.loop-number.number _).now c.take_one.new.left) c.if-not-branch.false c.in_ok-take_one.ensures)
