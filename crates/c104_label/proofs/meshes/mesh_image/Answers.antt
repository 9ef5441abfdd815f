use Rattle.{c104_interval.specs.declared.intervals.Table.Table, c104_label.{proofs.ShapeTables.mesh_in_range, specs.MeshLabels.mesh_table}}
use Rattle.{c104_plan.specs.{LabelledImages.labelled_image, PlanImage.{Image, range_of}}, std.proofs.Common.{IfOk, List, ap, length, map}}
use Rattle.std.proofs.{Common.{subst, sym, ◌*◌, ◌∙◌, ◌≡◌}, lemmas.List.FromFn.length-map-range_with_len}
use Rattle.c104_label.proofs.meshes.mesh_image.Goals as goal

pub image_with-requires-clause-switches : goal.image_with-requires-clause-switches
image_with-requires-clause-switches c = ap length (c.as_slice.ensures.value ∙ c.in_ok-tables.ensures.tables) ∙ length-map-range_with_len (mesh_table c.args.width c.args.height c.args.terminals) 0 (c.args.width * c.args.height) ∙ sym c.requires.switches

pub image_with-requires-clause-tables : goal.image_with-requires-clause-tables
image_with-requires-clause-tables c = mesh_in_range c.args.width c.args.height c.args.terminals c.as_slice.result.now c.requires.sizes (c.as_slice.ensures.value ∙ c.in_ok-tables.ensures.tables)

pub returns-clause-image : goal.returns-clause-image
returns-clause-image c = subst (λ (tables : List Table). IfOk c.image_with.result (λ (image : Image). image ≡ labelled_image c.args.plan.now (map range_of c.args.plan.now.terminals) tables)) (c.as_slice.ensures.value ∙ c.in_ok-tables.ensures.tables) c.image_with.ensures.image
