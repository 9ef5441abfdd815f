use Rattle.{c104_audit.specs.Audits.passes_at, c104_run.proofs.KeptElements.{got, kept_found}, std.proofs.Common.{sym, ◌∙◌}}

pub returns-then-passes : Rattle.c104_audit.proofs.ends.next_passing.Goals.returns-then-passes
returns-then-passes c =
    kept_found (passes_at c.args.switches c.args.end) c.args.trace.now c.args.from c.loop-at.at c.index-trace-at.result
    (got c.args.trace.now c.loop-at.at c.index-trace-at.result c.index-trace-at.result c.index-trace-at.is c.loop-at-test.true) (sym c.passes.ensures ∙ c.if-passes.true) c.loop-at.invariant
