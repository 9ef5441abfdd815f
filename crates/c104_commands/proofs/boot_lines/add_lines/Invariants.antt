use Rattle.{c104_commands.specs.Boots.command_line, std.proofs.Common.{flat_map, take, ◌++◌, ◌≡◌}}

-- the lines so far have joined the text
abbrev pub invariant-loop-command : Rattle.c104_commands.proofs.boot_lines.add_lines.Given.invariant-loop-command
invariant-loop-command l = l.text.items ≡ l.initial.text.items ++ flat_map (command_line l.plan) (take l.command-index l.commands)
