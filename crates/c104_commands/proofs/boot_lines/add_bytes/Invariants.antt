use Rattle.{c104_commands.specs.Boots.spaced_byte, std.proofs.Common.{flat_map, take, ◌++◌, ◌≡◌}}

-- the bytes so far have joined the text
abbrev pub invariant-loop-byte : Rattle.c104_commands.proofs.boot_lines.add_bytes.Given.invariant-loop-byte
invariant-loop-byte l = l.text.items ≡ l.initial.text.items ++ flat_map spaced_byte (take l.byte-index l.byte-items)
