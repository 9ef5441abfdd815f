use Rattle.{c104_workers.{proofs.GatheredSeats.seats_before, specs.Fabrics.AreSeatsOf}, std.proofs.Common.subst}
use Rattle.c104_tests_net.proofs.fabrics.run_two.Goals as goal

pub by_two_threads-first-requires-clause-second : goal.by_two_threads-first-requires-clause-second
by_two_threads-first-requires-clause-second g c κs within =
    let word = c.in_ok-fabric.fabric.word_id in
    (seats_before word c.pop.new.self.items c.in-Some.second (subst (AreSeatsOf word) c.in-Some.ensures.items c.in_ok-fabric.ensures)).1

pub by_two_threads-first-requires-clause-first : goal.by_two_threads-first-requires-clause-first
by_two_threads-first-requires-clause-first g c κs within =
    let word = c.in_ok-fabric.fabric.word_id in
    let before = (seats_before word c.pop.new.self.items c.in-Some.second
    (subst (AreSeatsOf word) c.in-Some.ensures.items c.in_ok-fabric.ensures)).0 in
    (seats_before word c.pop-2.new.self.items c.in-Some-pop.first (subst (AreSeatsOf word) c.in-Some-pop.ensures.items before)).1
