use Rattle.c104_audit.proofs.StraySeats.{strays_end}

pub returns : Rattle.c104_audit.proofs.seats.first_stray.Goals.returns
returns c = strays_end c.args.lists.now c.args.count c.args.leads.now c.loop-lead.lead-index c.loop-lead.first c.loop-lead-test.false c.loop-lead.invariant
