use Rattle.c104_describe.proofs.PrintedParts.{both_kinds}

-- one kind after the other
pub returns : Rattle.c104_describe.proofs.print.add_labelled.Goals.returns
returns c =
    both_kinds _ _ _ _ _ (both_kinds _ _ _ _ _ (both_kinds _ _ _ _ _ c.in_ok-add_switches.ensures c.in_ok-add_counted_terminals.ensures) c.in_ok-add_wires.ensures) c.in_ok-add_label.ensures
