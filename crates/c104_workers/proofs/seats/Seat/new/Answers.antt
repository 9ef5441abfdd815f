use Rattle.std.proofs.Common.{[], ap, arith, length}
use Rattle.c104_workers.proofs.seats.Seat.new.Goals as goal

pub invariant_of-result : goal.invariant_of-result
invariant_of-result c = record { done = []; tracks = c.requires.fresh; called = c.new.ensures.items; within = omega (arith, ap (λ xs. length xs) c.new.ensures.items); own = λ none. tt }
