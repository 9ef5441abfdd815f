use Rattle.{c104_regs.specs.Ranges.IsTableInRange, std.proofs.Common.{All, length, ◌≡◌}}

-- each link so far has its table
abbrev pub invariant-loop-place : Rattle.c104_label.proofs.form_tables.all_tables.Given.invariant-loop-place
invariant-loop-place l = (length l.tables.items ≡ l.place) × All IsTableInRange l.tables.items
