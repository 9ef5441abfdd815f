use Rattle.{c104_label.{proofs.TreeCounts.labels_next, specs.TreeLabels.net_of}, std.proofs.Common.arith}

pub loop-link-preserved : Rattle.c104_label.proofs.numbers.labels_before.Goals.loop-link-preserved
loop-link-preserved c =
    let next = labels_next (net_of c.args.plan.now) c.args.switch c.loop-link.link in
    record {
      value = omega (arith, next, c.loop-link.invariant.value, c.labels_behind-sum.ensures.value);
      small = omega (arith, c.loop-link.invariant.small, c.labels_behind-sum.ensures.small);
    }
