use Rattle.{c104_tests_net.proofs.CalmSeats.all_done, c104_turns.specs.declared.words.Words.Words, std.proofs.Common.arith}

pub loop-times-preserved : Rattle.c104_tests_net.proofs.packets_by_threads.work.Goals.loop-times-preserved
loop-times-preserved g c = (
  c.run_workers-end.ensures.own,
  omega (arith, c.loop-times.invariant.1, c.run_workers-end.auto.seats),
  all_done c.args.fabric.now.handed.plan Words.Zero c.args.seats.now c.loop-times.seats c.run_workers-end.new.seats c.loop-times.invariant.2 c.run_workers-end.auto.seats
      c.run_workers-end.ensures.worked,
)
