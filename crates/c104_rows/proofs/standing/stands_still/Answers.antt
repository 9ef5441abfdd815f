use Rattle.c104_rows.proofs.StillNets.{told_still}

pub returns : Rattle.c104_rows.proofs.standing.stands_still.Goals.returns
returns c = told_still c.args.net.now.network c.stands_still.result c.stands_still.ensures
