use Rattle.{c104_commands.specs.HeaderRows.table_text, std.{proofs.Common.{take, ◌≡◌}, specs.String.string_bytes}}

-- the lines so far are written
abbrev pub invariant-loop-row : Rattle.c104_commands.proofs.header_rows.table_text.Given.invariant-loop-row
invariant-loop-row l = string_bytes l.text ≡ table_text l.plan (take l.row-index l.rows)
