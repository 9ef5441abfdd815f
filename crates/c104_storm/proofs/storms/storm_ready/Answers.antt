use Rattle.{c104_storm.proofs.SomeSeats.some_seats, std.proofs.Common.{subst, sym, ◌≤◌}}

pub storm_shared-requires-clause-some : Rattle.c104_storm.proofs.storms.storm_ready.Goals.storm_shared-requires-clause-some
storm_shared-requires-clause-some g c κs within =
    some_seats _ _ _ c.in-Ok.ensures.seats (subst (λ t. 1 ≤ t.seats) (sym c.in-Ok.ensures.word.1) c.requires.some)
