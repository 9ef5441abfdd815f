use Rattle.c104_describe.proofs.{DraftsKept.{IsDraft, empty-kept, line_kept}, PlanReading.{after_line, at_fault, texts}}
use Rattle.c104_describe.specs.{PlanDrafts.draft_of, PlanFaults.fault_at, PlanLines.Draft, PlanText.read_plan_lines}
use Rattle.std.proofs.Common.{Err, ap, inl, inr, subst, sym, ◌+◌, ◌∙◌}
use Rattle.c104_describe.proofs.description.add_lines.Goals as goal

pub loop-index-init : goal.loop-index-init
loop-index-init c = record {
  due = ap (λ (d : Draft). read_plan_lines 1 (texts c.args.lines.now) d) c.requires;
  kept = subst IsDraft (sym c.requires) empty-kept;
}

pub loop-index-preserved : goal.loop-index-preserved
loop-index-preserved c =
    let before = c.loop-index.invariant in
    record {
      due = after_line c.args.lines.now c.loop-index.index _ c.loop-index-test.true (draft_of c.loop-index.draft) before.due (draft_of c.read_line.new.draft) c.in-Ok.ensures;
      kept = line_kept c.args.lines.now c.loop-index.index _ (draft_of c.loop-index.draft) (draft_of c.read_line.new.draft) before.kept c.in-Ok.ensures;
    }

pub returns-in-Err : goal.returns-in-Err
returns-in-Err c = elim c.in-Err.ensures [
  | inl is ↦ inl (at_fault c.args.lines.now c.loop-index.index _ c.loop-index-test.true (draft_of c.loop-index.draft) c.loop-index.invariant.due c.in-Err.kind is ∙ ap Err (sym c.fault_at.ensures))
  | inr none ↦ inr (c.fault_at.ensures ∙ ap (fault_at (c.loop-index.index + 1)) none)
]
