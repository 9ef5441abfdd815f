use Rattle.c104_audit.proofs.CalledCounts.{counts_end}

pub returns : Rattle.c104_audit.proofs.called.told_counts.Goals.returns
returns c = counts_end c.args.lists.now c.args.leads.now c.loop-at.at c.loop-at.counts.items c.loop-at-test.false c.loop-at.invariant.long c.loop-at.invariant.told
