use Rattle.{c104_workers.{proofs.GatheredSeats.seats_before, specs.Fabrics.AreSeatsOf}, std.proofs.Common.subst}

pub is_idle-is_idle-requires : Rattle.c104_tests_growths.proofs.idle_nets.idled.Goals.is_idle-is_idle-requires
is_idle-is_idle-requires g c =
    let word = c.in-Some.fabric.word_id in
    (seats_before word c.pop.new.self.items c.in-Some-pop.seat (subst (AreSeatsOf word) c.in-Some-pop.ensures.items c.in-Some.ensures)).1
