use Rattle.{c104_rows.specs.{Waits.{is_locked, meets}, declared.holders.TheConstants.MOST_INPUTS}, std.proofs.Common.{◌-◌, ◌≡◌}}

-- what is left tells it
abbrev pub invariant-loop-turn : Rattle.c104_rows.proofs.waits.is_locked.Given.invariant-loop-turn
invariant-loop-turn l = meets l.net l.input (MOST_INPUTS - l._turn) l.at ≡ is_locked l.net l.input
