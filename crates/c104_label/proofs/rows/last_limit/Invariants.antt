use Rattle.{c104_label.specs.LabelRows.last_limit, std.proofs.Common.{drop, ◌≡◌}}

-- the last limit of what is left, from the one so far
abbrev pub invariant-loop-row : Rattle.c104_label.proofs.rows.last_limit.Given.invariant-loop-row
invariant-loop-row l = last_limit l.limit (drop l.row-index l.rows) ≡ last_limit 0 l.rows
