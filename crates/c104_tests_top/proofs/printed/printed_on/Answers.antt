pub where_calm-requires-clause-plain : Rattle.c104_tests_top.proofs.printed.printed_on.Goals.where_calm-requires-clause-plain
where_calm-requires-clause-plain c = c.in_ok-image.ensures.never_randomized (c.is_plain.ensures.plain c.if-not-is_plain.false)
