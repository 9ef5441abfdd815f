use Rattle.{c104_session.proofs.ReadFaults.read_to_end, std.proofs.Common.{ap, arith, length}}

pub returns-clause-of_script : Rattle.c104_session.proofs.run_commands.run.Goals.returns-clause-of_script
returns-clause-of_script g c is =
    read_to_end _ _ _ c.in-Ok.ensures.taken (omega (arith, (c.run_description.ensures.of_script 1 is).1, ap length c.as_slice.ensures.value))
