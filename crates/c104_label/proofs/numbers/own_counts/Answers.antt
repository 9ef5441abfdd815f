use Rattle.c104_label.{proofs.{FilledTables.made_next, TreeAdded.own_all, TreeCounts.counts_are}, specs.TreeLabels.{net_of, own_labels}}
use Rattle.{c104_plan.proofs.Wires.wiring, std.proofs.Common.{ap, arith, length, refl, ◌∙◌}}
use Rattle.c104_label.proofs.numbers.own_counts.Goals as goal

pub loop-switch-preserved : goal.loop-switch-preserved
loop-switch-preserved c = made_next (own_labels (net_of c.args.plan.now)) c.loop-switch.switch _ _ _ c.loop-switch.invariant c.in_ok-push.ensures.items (c.labels_before.ensures.value ∙ own_all (net_of c.args.plan.now) c.loop-switch.switch 32 refl)

pub returns-clause-counts : goal.returns-clause-counts
returns-clause-counts c = counts_are c.args.plan.now c.loop-switch.counts.items c.loop-switch.switch (wiring c.args.plan.now c.switches-switch-end.ensures.kept) (omega (arith, ap length c.switches-switch-end.ensures.switches)) c.loop-switch.invariant
