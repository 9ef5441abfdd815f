use Rattle.c104_audit.proofs.{CalledSeats.{called_by_tests, ends_agree_by, told_of_called}, FirstFailures.fails_by}
use Rattle.{c104_audit.specs.Tests.{CarryAtAllEnds, IsToldAt}, std.proofs.Common.{IsTrue, false, true, ◌↔◌, ◌≡◌}}
use Rattle.c104_audit.proofs.seats.is_called.Goals as goal

pub returns-then-not-ends_agree_on : goal.returns-then-not-ends_agree_on
returns-then-not-ends_agree_on c =
    let ends : IsTrue c.ends_agree_on.result ↔ CarryAtAllEnds c.args.lists.now c.args.seat = ends_agree_by c.args.lists.now c.args.seat c.args.odd c.ends_agree_on.result c.ends_agree_on.ensures c.requires.odd c.requires.lower in
    (λ no. absurd (let never : false ≡ true = no in cc), λ called. absurd (fails_by (CarryAtAllEnds c.args.lists.now c.args.seat) c.ends_agree_on.result ends.1 c.if-not-ends_agree_on.true called.ends))

pub returns-then-not-is_told : goal.returns-then-not-is_told
returns-then-not-is_told c =
    (λ no. absurd (let never : false ≡ true = no in cc), λ called. absurd (fails_by (IsToldAt c.args.lists.now c.args.seat) c.is_told.result c.is_told.ensures.1 c.if-not-is_told.true (told_of_called c.args.lists.now c.args.seat called)))

pub is_apart-requires-clause-rising : goal.is_apart-requires-clause-rising
is_apart-requires-clause-rising c = (c.is_told.ensures.0 c.if-not-is_told.false).listed.rising

pub returns : goal.returns
returns c =
    let ends : IsTrue c.ends_agree_on.result ↔ CarryAtAllEnds c.args.lists.now c.args.seat = ends_agree_by c.args.lists.now c.args.seat c.args.odd c.ends_agree_on.result c.ends_agree_on.ensures c.requires.odd c.requires.lower in
    (λ yes. called_by_tests c.args.lists.now c.args.seat (ends.0 c.if-not-ends_agree_on.false) (c.is_told.ensures.0 c.if-not-is_told.false) (c.is_apart.ensures.0 yes), λ called. c.is_apart.ensures.1 called.apart)
