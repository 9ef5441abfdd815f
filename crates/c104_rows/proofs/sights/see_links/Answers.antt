use Rattle.{c104_rows.{proofs.{NumberSteps.none_yet, WiredSteps.{seen_all, seen_next}}, specs.Sights.wired_seen}, std.proofs.Common.arith}
use Rattle.c104_rows.proofs.sights.see_links.Goals as goal

pub loop-link-init : goal.loop-link-init
loop-link-init c = record {
  seen = none_yet (wired_seen c.args.net.now.network c.args.switch) c.args.counts.now;
  within = omega arith;
}

pub loop-link-preserved : goal.loop-link-preserved
loop-link-preserved c = record {
  seen = seen_next c.args.net.now.network c.args.switch c.wires.result.now _ c.wires.ensures
      c.linked-wired.ensures.linked c.loop-link.from c.in-Some.link c.args.counts.now c.loop-link.counts c.see_link.new.counts
      c.in-Some.ensures.1.0 c.in-Some.ensures.1.1 c.loop-link.invariant.seen c.in-Some.ensures.0 c.in-Some.ensures.1.2
      c.see_link.ensures;
  within = omega (arith, c.in-Some.ensures.1.1);
}

pub returns : goal.returns
returns c = seen_all c.args.net.now.network c.args.switch c.wires.result.now _ c.wires.ensures
    c.linked-wired.ensures.linked c.loop-link.from c.args.counts.now c.loop-link.counts c.loop-link.invariant.within
    c.loop-link.invariant.seen c.in_default.ensures.0
