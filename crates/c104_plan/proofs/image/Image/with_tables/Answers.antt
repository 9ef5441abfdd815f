use Rattle.c104_plan.proofs.LabelledSettings.{labelled_fits, labelled_kept}
use Rattle.c104_plan.proofs.image.Image.with_tables.Goals as goal

pub invariant_of-result : goal.invariant_of-result
invariant_of-result c = labelled_kept c.args.plan.now c.args.ranges.items c.args.tables.now c.in_ok-switches.switches.items c.labelled_switches.ensures.kept c.requires.ranges c.requires.switches c.requires.tables c.in_ok-switches.ensures.settings

pub returns-clause-fits : goal.returns-clause-fits
returns-clause-fits c = labelled_fits c.args.plan.now c.args.tables.now _ c.requires.terminals c.in_ok-switches.ensures.settings
