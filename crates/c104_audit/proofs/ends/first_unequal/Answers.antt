use Rattle.c104_audit.{proofs.FirstFailures.{below_all, below_next, fails_by, none_there, only_there}, specs.Audits.AgreeAtEnds}
use Rattle.{c104_audit.specs.{Audits.{AgreeOneByOne, passing_at}, declared.lists.Lists.Lists}, c104_plan.specs.declared.ports.Port.Port}
use Rattle.{c104_plan.specs.declared.ports.Wire.Wire, c104_run.proofs.KeptElements.read_there, std.proofs.Common.{arith, get_or, length}}
use Rattle.std.proofs.Common.{subst, ◌≤◌}
use Rattle.c104_audit.proofs.ends.first_unequal.Goals as goal

abbrev Agrees : Lists → Wire → Type 0
Agrees lists w = AgreeOneByOne (passing_at lists.switches lists.traces w.here) (passing_at lists.switches lists.traces w.there)

abbrev none : Wire
none = record { here = Port.Switch 0 0; there = Port.Switch 0 0 }

pub returns-then-not-ends_agree : goal.returns-then-not-ends_agree
returns-then-not-ends_agree c =
    let w : Wire = get_or c.as_slice-wires.result.now c.loop-number.number none in
    record {
      lower = c.loop-number.invariant;
      fails = λ so. fails_by (Agrees c.args.lists.now w) c.ends_agree.result c.ends_agree.ensures.1 c.if-not-ends_agree.true (so w (read_there c.args.lists.now.wires c.as_slice-wires.result.now c.loop-number.number none c.as_slice-wires.ensures c.loop-number-test.true));
    }

pub loop-number-preserved : goal.loop-number-preserved
loop-number-preserved c =
    below_next (AgreeAtEnds c.args.lists.now) c.loop-number.number c.loop-number.invariant
    (only_there (Agrees c.args.lists.now) c.args.lists.now.wires c.loop-number.number _ (read_there c.args.lists.now.wires c.as_slice-wires.result.now c.loop-number.number _ c.as_slice-wires.ensures c.loop-number-test.true) (c.ends_agree.ensures.0 c.if-not-ends_agree.false))

pub returns : goal.returns
returns c =
    let end : length c.args.lists.now.wires ≤ c.loop-number.number = subst (λ xs. length xs ≤ c.loop-number.number) c.as_slice-wires.ensures c.loop-number-test.false in
    below_all (AgreeAtEnds c.args.lists.now) c.loop-number.number c.loop-number.invariant (λ k past. none_there (Agrees c.args.lists.now) c.args.lists.now.wires k (omega (arith, end, past)))
