use Rattle.c104_commands.proofs.KeptNames.{values_there}

pub add_lines-requires : Rattle.c104_commands.proofs.label_names.add_values.Goals.add_lines-requires
add_lines-requires c = values_there _ c.in-Some.values.now c.in-Some.ensures.values c.in-Some.ensures.map
