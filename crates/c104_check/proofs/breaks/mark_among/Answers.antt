use Rattle.{c104_check.proofs.MarkLemmas.{changes_all, changes_next}, std.proofs.Common.{arith, refl, slice_index_or}}
use Rattle.c104_check.proofs.breaks.mark_among.Goals as goal

pub loop-header-preserved : goal.loop-header-preserved
loop-header-preserved c = changes_next c.args.table.now c.args.marks.now c.loop-header.marks c.mark_change.new.marks c.args.headers.now c.loop-header.header-index 0 (slice_index_or c.args.headers.now c.loop-header.header-index 0) (c.loop-header-test.true) refl c.loop-header.invariant c.mark_change.ensures

pub returns : goal.returns
returns c = changes_all c.args.table.now c.args.marks.now c.loop-header.marks c.args.headers.now c.loop-header.header-index (omega (arith, c.loop-header-test.false)) c.loop-header.invariant
