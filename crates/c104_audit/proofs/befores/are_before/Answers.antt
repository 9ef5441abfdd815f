use Rattle.c104_audit.{proofs.EqualWalks.{equal_answer, equal_fails, equal_next, equal_over}, specs.Audits.unseated}
use Rattle.{c104_node.specs.declared.acts.Entry.Entry, c104_run.proofs.KeptElements.{drop_all, got, kept_here, passed_here, place_inside}}
use Rattle.std.proofs.Common.{Bool, IsTrue, Some, ap, drop, false, is_some, length, not, slice_get, subst, sym, true, ◌+◌, ◌↔◌, ◌∙◌, ◌≡◌}
use Rattle.std.proofs.Common.{◌≤◌}
use Rattle.c104_audit.proofs.befores.are_before.Goals.{else-not-has_seat, then-not-has_seat+else-not-stands_at}
use Rattle.c104_audit.proofs.befores.are_before.Goals as goal

abbrev has_none : Entry → Bool
has_none e = not (is_some e.seat)

pub returns-then-not-stands_at : goal.returns-then-not-stands_at
returns-then-not-stands_at c =
    equal_fails (unseated c.args.trace.now ≡ c.args.before.now) _ _ c.args.before.now c.loop-entry.met c.entry-item.result
    (kept_here has_none c.args.trace.now c.loop-entry.entry-index c.entry-item.result (got c.args.trace.now c.loop-entry.entry-index c.entry-item.result c.entry-item.result c.entry-item.is c.loop-entry-test.true) (ap not (sym c.has_seat.ensures ∙ c.if-not-has_seat.true)))
    (λ at. (let yes : IsTrue c.stands_at.result = c.stands_at.ensures.1 at in let no = c.if-not-stands_at.true in let never : true ≡ false = sym yes ∙ no in cc))
    c.loop-entry.invariant.same

pub loop-entry-preserved : goal.loop-entry-preserved
loop-entry-preserved c =
    let All = (unseated c.args.trace.now ≡ c.args.before.now) in
    let here : slice_get c.args.trace.now c.loop-entry.entry-index ≡ Some c.entry-item.result = got c.args.trace.now c.loop-entry.entry-index c.entry-item.result c.entry-item.result c.entry-item.is c.loop-entry-test.true in
    elim c.if-not-has_seat.branch [
      | then-not-has_seat+else-not-stands_at w ↦
          (let at : slice_get c.args.before.now c.loop-entry.met ≡ Some c.entry-item.result = w.stands_at.ensures.0 w.if-not-stands_at.false in
          record {
            same = subst (λ n. (unseated (drop (c.loop-entry.entry-index + 1) c.args.trace.now) ≡ drop n c.args.before.now) ↔ All) (sym w.met-is)
                (equal_next All _ _ c.args.before.now c.loop-entry.met c.entry-item.result (kept_here has_none c.args.trace.now c.loop-entry.entry-index c.entry-item.result here (ap not (sym c.has_seat.ensures ∙ w.if-not-has_seat.true))) at c.loop-entry.invariant.same);
            few = subst (λ n. n ≤ length c.args.before.now) (sym w.met-is) (place_inside c.args.before.now c.loop-entry.met c.entry-item.result at);
          })
      | else-not-has_seat w ↦ record {
        same = subst (λ n. (unseated (drop (c.loop-entry.entry-index + 1) c.args.trace.now) ≡ drop n c.args.before.now) ↔ All) (sym w.met-is)
            (equal_over All _ _ c.args.before.now c.loop-entry.met (passed_here has_none c.args.trace.now c.loop-entry.entry-index c.entry-item.result here (ap not (sym c.has_seat.ensures ∙ w.if-not-has_seat.false))) c.loop-entry.invariant.same);
        few = subst (λ n. n ≤ length c.args.before.now) (sym w.met-is) c.loop-entry.invariant.few;
      }
    ]

pub returns : goal.returns
returns c = equal_answer (unseated c.args.trace.now ≡ c.args.before.now) (unseated (drop c.loop-entry.entry-index c.args.trace.now)) c.args.before.now c.loop-entry.met (ap unseated (drop_all c.args.trace.now c.loop-entry.entry-index c.loop-entry-test.false)) c.loop-entry.invariant.same
