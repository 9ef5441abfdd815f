use Rattle.std.proofs.Common.{Ok, rules}

-- a part of it was written
pub returns-in_default-write_whole : Rattle.c104_commands.proofs.shows.show_setup.Goals.returns-in_default-write_whole
returns-in_default-write_whole g c =
    λ due comes. (Ok (c.args.setup.now.plan, c.args.setup.now.image), comes, c.in-Ok.printed.text.items, c.in-Ok.printed.refused, c.in-Ok.ensures, search rules)
