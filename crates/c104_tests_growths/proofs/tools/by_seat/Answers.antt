use Rattle.{c104_workers.{proofs.GatheredSeats.seats_before, specs.Fabrics.AreSeatsOf}, std.proofs.Common.subst}

pub used-found-requires : Rattle.c104_tests_growths.proofs.tools.by_seat.Goals.used-found-requires
used-found-requires g c =
    let word = c.in-Some.fabric.word_id in
    (seats_before word c.pop.new.self.items c.in-Some-pop.seat (subst (AreSeatsOf word) c.in-Some-pop.ensures.items c.in-Some.ensures)).1
