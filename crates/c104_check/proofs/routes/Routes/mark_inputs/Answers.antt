use Rattle.{c104_check.{proofs.MarkLemmas.{begins_all, begins_next}, specs.Trails.routes_in}, std.proofs.Common.arith}
use Rattle.c104_check.proofs.routes.Routes.mark_inputs.Goals as goal

pub loop-place-preserved : goal.loop-place-preserved
loop-place-preserved c = begins_next (routes_in c.args.self.now) c.args.marks.now c.loop-place.marks c.mark_input.new.marks c.loop-place.place c.at.result c.at.ensures (omega (arith, c.loop-place-test.true, c.loop-place.auto.place-end, c.switch_count-place-end.ensures.count)) c.loop-place.invariant (c.in_ok-mark_input.ensures)

pub returns : goal.returns
returns c = begins_all (routes_in c.args.self.now) c.args.marks.now c.loop-place.marks c.loop-place.place c.switch_count-place-end.ensures.network (omega (arith, c.loop-place-test.false, c.loop-place.auto.place-end, c.switch_count-place-end.ensures.count)) c.loop-place.invariant
