use Rattle.c104_describe.proofs.PrintedParts.{with_tables}

pub returns : Rattle.c104_describe.proofs.print.shared_text.Goals.returns
returns c = with_tables c.args.plan.now _ _ c.in_ok-add_others.ensures c.in_ok-add_tables.ensures
