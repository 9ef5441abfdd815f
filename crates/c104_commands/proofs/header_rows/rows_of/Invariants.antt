use Rattle.{c104_check.specs.Reach.routes_for, c104_commands.specs.HeaderRows.AreRowsOf}

-- the rows of the links so far are there
abbrev pub invariant-loop-place : Rattle.c104_commands.proofs.header_rows.rows_of.Given.invariant-loop-place
invariant-loop-place l = AreRowsOf (routes_for l.reach) l.reach.header l.place l.rows.items
