use Rattle.c104_describe.proofs.PrintedParts.{both_kinds}

-- one kind after the other
pub returns : Rattle.c104_describe.proofs.print_tables.add_table_of.Goals.returns
returns c = both_kinds _ _ _ _ _ c.in_ok-add_shared_base.ensures c.in_ok-add_shared_rows.ensures
