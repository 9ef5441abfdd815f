use Rattle.{c104_commands.specs.ImageTexts.range_lines, std.{proofs.Common.{◌++◌, ◌≡◌}, specs.String.string_bytes}}

-- the lines of the terminals so far are written
abbrev pub invariant-loop-terminal : Rattle.c104_commands.proofs.images.add_ranges.Given.invariant-loop-terminal
invariant-loop-terminal l = string_bytes l.text ≡ string_bytes l.fn.text ++ range_lines l.plan l.image l.terminal
