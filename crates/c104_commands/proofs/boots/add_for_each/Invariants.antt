use Rattle.{c104_commands.specs.Boots.switch_command, c104_tools.specs.Loads.for_each, std.proofs.Common.{map, ◌++◌, ◌≡◌}}

-- the switches so far have their commands
abbrev pub invariant-loop-switch : Rattle.c104_commands.proofs.boots.add_for_each.Given.invariant-loop-switch
invariant-loop-switch l = l.commands.items ≡ l.initial.commands.items ++ map switch_command (for_each l.switch l.command)
