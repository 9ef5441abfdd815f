use Rattle.std.proofs.Common.{◌≡◌}
use Rattle.c104_tests_net.proofs.fabrics.take_packet.Given as goal

-- the seat stays one of the fabric
abbrev pub invariant-loop : goal.invariant-loop
invariant-loop g l = record {
  next : (goal.iterator-loop g).can_next l.iterator';
  finite : (goal.iterator-loop g).is_finite l.iterator';
  seat : l.seat.0.word_id ≡ l.fabric.word_id;
}
