use Rattle.{c104_workers.{proofs.GatheredSeats.seats_before, specs.Fabrics.AreSeatsOf}, std.proofs.Common.subst}

pub are_told-told-requires : Rattle.c104_tests_net.proofs.fabric_faults.by_switch_and_terminal.Goals.are_told-told-requires
are_told-told-requires g c =
    let word = c.in_ok-fabric.fabric.word_id in
    (seats_before word c.pop.new.self.items c.in-Some.seat (subst (AreSeatsOf word) c.in-Some.ensures.items c.in_ok-fabric.ensures)).1
