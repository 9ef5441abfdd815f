use Rattle.c104_describe.proofs.PrintedParts.{parts_are_text}

-- one kind after the other
pub returns : Rattle.c104_describe.proofs.print.add_parts.Goals.returns
returns c =
    parts_are_text c.args.plan.now _ _ _ _ _ _ _ c.requires
    c.in_ok-add_network.ensures
    c.in_ok-add_continues.ensures c.in_ok-add_deletes.ensures c.in_ok-add_bases.ensures c.in_ok-add_rows.ensures c.in_ok-add_randoms.ensures
