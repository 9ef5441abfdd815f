use Rattle.{c104_tests_net.proofs.CalmSeats.first_count, c104_tickets.specs.declared.views.Terms.Terms, std.proofs.Common.{subst, sym, ◌≤◌}}

pub closed-requires-clause-some : Rattle.c104_tests_net.proofs.packets_by_threads.left_ready.Goals.closed-requires-clause-some
closed-requires-clause-some g c κs within =
    subst (λ n. 1 ≤ n) (sym (first_count _ _ _ c.in-Ok.ensures.seats)) (subst (λ (t : Terms). 1 ≤ t.seats) (sym c.in-Ok.ensures.word.1) c.requires.some)
