use Rattle.c104_plan.{proofs.ImageMade.ranges_kept, specs.{LabelledImages.labelled_image, PlanImage.{Image, range_of}}}
use Rattle.std.proofs.{Common.{IfOk, List, ap, length, subst, ℕ, ◌∙◌, ◌≡◌}, lemmas.List.length-map}
use Rattle.c104_label.proofs.images.image_with.Goals as goal

pub with_tables-requires-clause-terminals : goal.with_tables-requires-clause-terminals
with_tables-requires-clause-terminals c = ap length (c.in_ok-ranges.ensures.ranges) ∙ length-map c.args.plan.now.terminals range_of

pub with_tables-requires-clause-ranges : goal.with_tables-requires-clause-ranges
with_tables-requires-clause-ranges c = ranges_kept c.args.plan.now c.in_ok-ranges.ranges.items c.ranges-2.ensures.kept c.in_ok-ranges.ensures.ranges

pub returns-clause-image : goal.returns-clause-image
returns-clause-image c = subst (λ (ranges : List (ℕ × ℕ)). IfOk c.with_tables.result (λ (image : Image). image ≡ labelled_image c.args.plan.now ranges c.args.tables.now)) (c.in_ok-ranges.ensures.ranges) c.with_tables.ensures.image
