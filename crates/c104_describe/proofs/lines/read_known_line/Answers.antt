use Rattle.c104_describe.{proofs.{MixedLast.{known_mixed, known_or_memory}, PlanReading.texts}, specs.PlanDrafts.draft_of}
use Rattle.std.proofs.Common.{inl, sym, ◌∙◌}
use Rattle.c104_describe.proofs.lines.read_known_line.Goals as goal

pub returns-in-Err : goal.returns-in-Err
returns-in-Err c = known_or_memory (draft_of c.args.draft.now) c.args.keyword (texts c.args.rest.now) c.in-Err.kind c.in-Err.ensures

pub returns-in-Ok : goal.returns-in-Ok
returns-in-Ok c = inl (known_mixed (draft_of c.args.draft.now) c.args.keyword (texts c.args.rest.now) _ (sym c.is_mixed-is_mixed.ensures ∙ c.if-is_mixed.true) c.in-Ok.ensures)
