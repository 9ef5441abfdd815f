use Rattle.c104_audit.{proofs.HalvesAgree.{agree_next, agree_over, no_half}, specs.{Audits.{AgreeOneByOne, passes_at}, Tests.passing}}
use Rattle.{c104_run.proofs.KeptElements.{got, kept_here, passed_here}, std.proofs.Common.{Some, drop, slice_get, subst, sym, ◌+◌, ◌↔◌}}
use Rattle.std.proofs.Common.{◌∙◌, ◌≡◌}
use Rattle.c104_audit.proofs.ends.agree.Goals.{else-passes, then-passes+in-Some}
use Rattle.c104_audit.proofs.ends.agree.Goals as goal

pub returns-in-None : goal.returns-in-None
returns-in-None c =
    no_half (AgreeOneByOne (passing c.args.switches c.args.here c.args.trace.now) (passing c.args.switches c.args.there c.args.far_trace.now)) _ _ _ c.entry-item.result
    (kept_here (passes_at c.args.switches c.args.here) c.args.trace.now c.loop-entry.entry-index c.entry-item.result (got c.args.trace.now c.loop-entry.entry-index c.entry-item.result c.entry-item.result c.entry-item.is c.loop-entry-test.true) (sym c.passes.ensures ∙ c.if-passes.true))
    c.in-None.ensures c.loop-entry.invariant

pub loop-entry-preserved : goal.loop-entry-preserved
loop-entry-preserved c =
    let there : slice_get c.args.trace.now c.loop-entry.entry-index ≡ Some c.entry-item.result = got c.args.trace.now c.loop-entry.entry-index c.entry-item.result c.entry-item.result c.entry-item.is c.loop-entry-test.true in
    let All = AgreeOneByOne (passing c.args.switches c.args.here c.args.trace.now) (passing c.args.switches c.args.there c.args.far_trace.now) in
    elim c.if-passes.branch [
      | then-passes+in-Some w ↦ subst (λ n. AgreeOneByOne (passing c.args.switches c.args.here (drop (c.loop-entry.entry-index + 1) c.args.trace.now)) (passing c.args.switches c.args.there (drop n c.args.far_trace.now)) ↔ All) (sym w.behind-is)
          (agree_next All _ _ _ _ c.entry-item.result (kept_here (passes_at c.args.switches c.args.here) c.args.trace.now c.loop-entry.entry-index c.entry-item.result there (sym c.passes.ensures ∙ w.if-passes.true)) w.in-Some.ensures c.loop-entry.invariant)
      | else-passes w ↦ subst (λ n. AgreeOneByOne (passing c.args.switches c.args.here (drop (c.loop-entry.entry-index + 1) c.args.trace.now)) (passing c.args.switches c.args.there (drop n c.args.far_trace.now)) ↔ All) (sym w.behind-is)
          (agree_over All _ _ _ (passed_here (passes_at c.args.switches c.args.here) c.args.trace.now c.loop-entry.entry-index c.entry-item.result there (sym c.passes.ensures ∙ w.if-passes.false)) c.loop-entry.invariant)
    ]
