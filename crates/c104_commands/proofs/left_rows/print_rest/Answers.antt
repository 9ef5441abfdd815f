use Rattle.c104_commands.specs.LeftRows.{names_of}

pub returns : Rattle.c104_commands.proofs.left_rows.print_rest.Goals.returns
returns c = c.show_rest.ensures (names_of c.args.ports.now) c.args.rows c.in_ok-left.ensures
