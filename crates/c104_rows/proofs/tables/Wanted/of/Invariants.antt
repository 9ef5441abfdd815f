use Rattle.{c104_rows.specs.Tables.{nothing_wanted, wanted_behind}, std.proofs.Common.{drop, ◌≡◌}}

-- what is wanted for the tables so far and those that are left is what is for all
abbrev pub invariant-loop-table : Rattle.c104_rows.proofs.tables.Wanted.of.Given.invariant-loop-table
invariant-loop-table l =
    wanted_behind l.each l.wanted (drop l.table-index l.tables) ≡ wanted_behind l.each nothing_wanted l.tables
