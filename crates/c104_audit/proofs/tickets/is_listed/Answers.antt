use Rattle.c104_audit.proofs.ListedCalls.{listed_is}

pub returns : Rattle.c104_audit.proofs.tickets.is_listed.Goals.returns
returns c = listed_is c.args.first c.args.calls.now c.are_in_order.result c.are_in_order.ensures
