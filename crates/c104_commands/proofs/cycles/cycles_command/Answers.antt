use Rattle.{c104_commands.specs.Cycles.PrintsCycles, c104_setup.proofs.Refusals.runs_on}

pub returns-in-Ok : Rattle.c104_commands.proofs.cycles.cycles_command.Goals.returns-in-Ok
returns-in-Ok g c = runs_on (PrintsCycles c.args.all) _ _ _ _ _ _ _ c.in-Ok.ensures.unwritten c.in-Ok.ensures.network c.search_setup.ensures
