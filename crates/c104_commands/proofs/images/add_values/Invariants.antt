use Rattle.{c104_commands.specs.ImageTexts.value_line, c104_plan.specs.PortTexts.switch_name, std.proofs.Common.{flat_map, take, ◌++◌, ◌≡◌}}
use Rattle.std.specs.String.{string_bytes}

-- the lines of the registers so far are written
abbrev pub invariant-loop-value : Rattle.c104_commands.proofs.images.add_values.Given.invariant-loop-value
invariant-loop-value l = string_bytes l.text ≡ string_bytes l.fn.text ++ flat_map (value_line (switch_name l.plan l.switch)) (take l.value-index l.values)
