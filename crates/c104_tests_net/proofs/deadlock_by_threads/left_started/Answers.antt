use Rattle.{c104_node.specs.Starts.IsStartedStart, c104_workers.specs.Fabrics.Handed, std.proofs.Common.{All, ap, subst, sym}}

pub returns-clause-started : Rattle.c104_tests_net.proofs.deadlock_by_threads.left_started.Goals.returns-clause-started
returns-clause-started g c =
    subst (All IsStartedStart) (sym (ap (λ (h : Handed). h.starts) c.in_ok-gathered.ensures.handed_so)) (c.began_started.ensures.0 c.if-not-began_started.false)
