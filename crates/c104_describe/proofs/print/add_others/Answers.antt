use Rattle.c104_describe.proofs.PrintedParts.{others_are_text}

-- one kind after the other
pub returns : Rattle.c104_describe.proofs.print.add_others.Goals.returns
returns c =
    others_are_text c.args.plan.now _ _ _ _ _ c.requires
    c.in_ok-add_network.ensures
    c.in_ok-add_continues.ensures c.in_ok-add_deletes.ensures c.in_ok-add_randoms.ensures
