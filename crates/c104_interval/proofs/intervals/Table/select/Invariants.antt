-- What is left to hold the header against selects what the whole table does.
use Rattle.{c104_interval.specs.Selection.{select, select_from}, std.proofs.Common.{drop, ◌≡◌}}

abbrev pub invariant-loop-row : Rattle.c104_interval.proofs.intervals.Table.select.Given.invariant-loop-row
invariant-loop-row l = select_from l.low (drop l.row-index l.self.rows) l.header ≡ select l.self l.header
