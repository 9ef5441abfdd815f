use Rattle.{c104_workers.{proofs.GatheredSeats.seats_before, specs.Fabrics.AreSeatsOf}, std.proofs.Common.subst}
use Rattle.c104_tests_net.proofs.debuggers.work_and_close.Goals as goal

pub by_two-workers-requires-clause-word : goal.by_two-workers-requires-clause-word
by_two-workers-requires-clause-word g c κs within =
    let word = c.in_ok-fabric.fabric.word_id in
    (seats_before word c.pop.new.self.items c.in-Some.third (subst (AreSeatsOf word) c.in-Some.ensures.items c.in_ok-fabric.ensures)).1

pub by_two-workers-requires-clause-second : goal.by_two-workers-requires-clause-second
by_two-workers-requires-clause-second g c κs within =
    let word = c.in_ok-fabric.fabric.word_id in
    let before = (seats_before word c.pop.new.self.items c.in-Some.third
    (subst (AreSeatsOf word) c.in-Some.ensures.items c.in_ok-fabric.ensures)).0 in
    (seats_before word c.pop-2.new.self.items c.in-Some-pop.second (subst (AreSeatsOf word) c.in-Some-pop.ensures.items before)).1

pub by_two-workers-requires-clause-first : goal.by_two-workers-requires-clause-first
by_two-workers-requires-clause-first g c κs within =
    let word = c.in_ok-fabric.fabric.word_id in
    let before = (seats_before word c.pop.new.self.items c.in-Some.third
    (subst (AreSeatsOf word) c.in-Some.ensures.items c.in_ok-fabric.ensures)).0 in
    let before-2 = (seats_before word c.pop-2.new.self.items c.in-Some-pop.second
    (subst (AreSeatsOf word) c.in-Some-pop.ensures.items before)).0 in
    (seats_before word c.pop-3.new.self.items c.in-Some-pop-2.first (subst (AreSeatsOf word) c.in-Some-pop-2.ensures.items before-2)).1
