use Rattle.{c104_audit.{proofs.FirstFailures.{below_next, fails_by}, specs.Tests.AreApart}, std.proofs.Common.{false, true, ◌≡◌}}
use Rattle.c104_audit.proofs.tickets.is_apart.Goals as goal

pub returns-then-not-are_seats_apart : goal.returns-then-not-are_seats_apart
returns-then-not-are_seats_apart c = (
  λ no. absurd (let never : false ≡ true = no in cc),
  λ all. absurd (fails_by (AreApart c.args.lists.now c.args.seat c.loop-lower.lower) c.are_seats_apart.result c.are_seats_apart.ensures.1 c.if-not-are_seats_apart.true (all c.loop-lower.lower c.loop-lower-test.true)),
)

pub loop-lower-preserved : goal.loop-lower-preserved
loop-lower-preserved c = below_next (AreApart c.args.lists.now c.args.seat) c.loop-lower.lower c.loop-lower.invariant (c.are_seats_apart.ensures.0 c.if-not-are_seats_apart.false)
