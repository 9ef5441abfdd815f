use Rattle.c104_describe.proofs.PrintedParts.{tables_next}

pub loop-switch-preserved : Rattle.c104_describe.proofs.print_tables.add_tables.Goals.loop-switch-preserved
loop-switch-preserved c = tables_next c.args.plan.now c.loop-switch.switch _ _ _ c.loop-switch.invariant c.in_ok-add_table.ensures
