use Rattle.{c104_script.specs.Findings.found_text, std.proofs.Common.{drop, flat_map, ◌++◌, ◌≡◌}}

-- the text so far, and the lines of the registers that are left, are the whole
abbrev pub invariant-loop-register : Rattle.c104_script.proofs.found_registers.add_lines.Given.invariant-loop-register
invariant-loop-register l = l.text.items ++ flat_map found_text (drop l.register-index l.registers) ≡ l.initial.text.items ++ flat_map found_text l.registers
