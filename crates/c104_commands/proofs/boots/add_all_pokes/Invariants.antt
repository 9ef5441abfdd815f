use Rattle.{c104_commands.{proofs.BootLemmas.pokes_left, specs.Boots.switch_command}, c104_tools.specs.Loads.{steps_from, switch_pokes}}
use Rattle.std.proofs.Common.{map, ◌++◌, ◌≡◌}

-- what is left to be poked is all but what was
abbrev pub invariant-loop-switch : Rattle.c104_commands.proofs.boots.add_all_pokes.Given.invariant-loop-switch
invariant-loop-switch l =
    l.commands.items ++ pokes_left l.switches l.switch
    ≡ l.initial.commands.items ++ map switch_command (steps_from switch_pokes 0 l.switches)
