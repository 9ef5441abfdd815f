use Rattle.{c104_run.proofs.LinkOrders.orders_first, std.proofs.Common.refl}

pub invariant_of-result : Rattle.c104_run.proofs.turns.Turns.first.Goals.invariant_of-result
invariant_of-result c = (refl, λ s. orders_first c.first.result 64 s c.first.ensures)
