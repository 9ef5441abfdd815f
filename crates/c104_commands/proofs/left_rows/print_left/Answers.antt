use Rattle.c104_commands.{proofs.LeftLemmas.rest_came, specs.LeftRows.names_of}

pub returns-in-Some : Rattle.c104_commands.proofs.left_rows.print_left.Goals.returns-in-Some
returns-in-Some c =
    rest_came (names_of c.args.ports.now) c.args.plan.now c.args.image.now c.in_ok-rows.field-0 c.in-Some.rows c.print_rest.result c.in-Some.is c.in_ok-rows.ensures.rows c.in_ok-rows.ensures.image c.print_rest.ensures
