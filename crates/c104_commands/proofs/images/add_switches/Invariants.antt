use Rattle.{c104_commands.specs.ImageTexts.switch_lines, std.{proofs.Common.{◌++◌, ◌≡◌}, specs.String.string_bytes}}

-- the lines of the switches so far are written
abbrev pub invariant-loop-switch : Rattle.c104_commands.proofs.images.add_switches.Given.invariant-loop-switch
invariant-loop-switch l = string_bytes l.text ≡ string_bytes l.fn.text ++ switch_lines l.plan l.image l.switch
