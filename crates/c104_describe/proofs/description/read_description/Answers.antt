use Rattle.c104_describe.proofs.{DraftsKept.{empty-kept, lines_kept, read_lines-kept}, PlanDue.{due, faultless_lines, given_plan}}
use Rattle.c104_describe.{proofs.PlanReading.texts, specs.{PlanDrafts.draft_of, PlanText.{GivesPlanOrNoMemory, empty_draft}}}
use Rattle.{c104_describe.specs.PlanText.{read_description, read_plan_lines}, c104_plan.specs.{Plans.IsPlan, TextCut.{lines, most_bytes}}}
use Rattle.std.proofs.Common.{Ok, ap, inl, length, rules, subst, sym, ◌∙◌, ◌≡◌, ◌≤◌}
use Rattle.c104_describe.proofs.description.read_description.Goals as goal

pub finish-requires : goal.finish-requires
finish-requires c = record {
  lines = lines_kept 1 (texts c.as_slice.result.now) empty_draft (draft_of c.in_ok-draft.draft) empty-kept c.in_ok-draft.ensures;
  all = read_lines-kept 1 (texts c.as_slice.result.now) empty_draft (draft_of c.in_ok-draft.draft) empty-kept c.in_ok-draft.ensures;
}

pub returns-clause-kept : goal.returns-clause-kept
returns-clause-kept c = subst IsPlan (sym c.in_ok-plan.ensures) (read_lines-kept 1 (texts c.as_slice.result.now) empty_draft (draft_of c.in_ok-draft.draft) empty-kept c.in_ok-draft.ensures)

pub returns-clause-described : goal.returns-clause-described
returns-clause-described c =
    let read : read_plan_lines 1 (lines c.args.text.now) empty_draft ≡ Ok (draft_of c.in_ok-draft.draft) = search rules in
    let short : length c.args.text.now ≤ most_bytes = search rules in
    inl (ap Ok c.in_ok-plan.ensures ∙ sym (given_plan c.args.text.now (draft_of c.in_ok-draft.draft) short read))

-- the fault that is handed on is what the description is due
pub returns-in_err-draft-clause-due : goal.returns-in_err-draft-clause-due
returns-in_err-draft-clause-due c =
    let gives : GivesPlanOrNoMemory c.from_residual-in_err-draft.result (read_description c.args.text.now) = search rules in
    due c.args.text.now c.from_residual-in_err-draft.result gives

-- the lines were read
pub returns-clause-faultless : goal.returns-clause-faultless
returns-clause-faultless c =
    let read : read_plan_lines 1 (lines c.args.text.now) empty_draft ≡ Ok (draft_of c.in_ok-draft.draft) = search rules in
    faultless_lines (lines c.args.text.now) (draft_of c.in_ok-draft.draft) read
