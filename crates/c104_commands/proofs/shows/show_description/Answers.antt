use Rattle.c104_setup.proofs.Refusals.{runs_on}

pub returns-in-Ok : Rattle.c104_commands.proofs.shows.show_description.Goals.returns-in-Ok
returns-in-Ok g c = runs_on _ _ _ _ _ _ _ _ c.in-Ok.ensures.unwritten c.in-Ok.ensures.network c.show_setup.ensures
