use Rattle.c104_describe.{proofs.DraftsKept.IsDraft, specs.{PlanDrafts.draft_of, PlanText.{empty_draft, read_plan_lines}}}
use Rattle.std.proofs.Common.{drop, map, ◌+◌, ◌≡◌}

-- what the rest says after the lines read is what all lines say, and what was read is a plan
abbrev pub invariant-loop-index : Rattle.c104_describe.proofs.description.add_lines.Given.invariant-loop-index
invariant-loop-index l = record {
  due : read_plan_lines (l.index + 1) (drop l.index (map (λ line. line.now) l.lines)) (draft_of l.draft) ≡ read_plan_lines 1 (map (λ line. line.now) l.lines) empty_draft;
  kept : IsDraft (draft_of l.draft);
}
