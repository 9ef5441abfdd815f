use Rattle.c104_plan.{proofs.LabelledSettings.{port_labelled_fits, port_labelled_kept}, specs.{PlanImage.Image, Plans.IsRange}}
use Rattle.std.proofs.{Common.{ap, length, ◌∙◌}, lemmas.List.Elements.All-same}
use Rattle.c104_plan.proofs.image.Image.with_port_tables.Goals as goal

pub invariant_of-result : goal.invariant_of-result
invariant_of-result c =
    port_labelled_kept c.args.plan.now c.in_ok-ranges.ranges.items c.args.tables.now c.args.groups.now c.in_ok-switches.switches.items c.port_labelled_switches.ensures.kept
    (All-same (λ range. IsRange range.0 range.1) c.in_ok-ranges.ranges.items c.self.inside.ranges.items (c.in_ok-ranges.ensures.items ∙ c.as_slice.ensures.value) c.self.invariant.ranges)
    c.requires.ports c.requires.tables c.in_ok-switches.ensures.settings

pub returns-clause-fits : goal.returns-clause-fits
returns-clause-fits c =
    port_labelled_fits c.args.plan.now c.args.tables.now c.args.groups.now _ (ap length (c.in_ok-ranges.ensures.items ∙ c.as_slice.ensures.value) ∙ ap (λ (image : Image). length image.ranges) c.self.view_is ∙ c.requires.terminals) c.in_ok-switches.ensures.settings
