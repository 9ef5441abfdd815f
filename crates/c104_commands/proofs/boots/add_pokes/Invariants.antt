use Rattle.{c104_commands.specs.Boots.switch_command, c104_tools.specs.Loads.pokes, std.proofs.Common.{map, take, ◌++◌, ◌≡◌}}

-- the values so far have their pokes
abbrev pub invariant-loop-value : Rattle.c104_commands.proofs.boots.add_pokes.Given.invariant-loop-value
invariant-loop-value l = l.commands.items ≡ l.initial.commands.items ++ map switch_command (pokes l.switch (take l.value-index l.values))
