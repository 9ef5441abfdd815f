use Rattle.{c104_stream.proofs.Prefixes.some_left, std.proofs.{Common.{arith, length, ◌<◌}, lemmas.Bool.Decides.nat_tests}}

pub returns-clause-prefix : Rattle.c104_stream.proofs.writing.write_whole.Goals.returns-clause-prefix
returns-clause-prefix g c =
    let some : 0 < length c.write_front-rest.result.now = grind (arith, nat_tests) in
    some_left _ _ _ _ c.write_front-rest.ensures some
