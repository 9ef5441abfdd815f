use Rattle.{c104_commands.proofs.ImageLines.hex_written, std.proofs.Common.rules}

pub returns : Rattle.c104_commands.proofs.images.value_line.Goals.returns
returns c = search (rules, hex_written)
