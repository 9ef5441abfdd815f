use Rattle.{c104_check.{proofs.MarkLemmas.ChangeAmong, specs.Breaks.AddsMarks}, std.proofs.Common.take}

-- the changes among the headers so far are marked
abbrev pub invariant-loop-header : Rattle.c104_check.proofs.breaks.mark_among.Given.invariant-loop-header
invariant-loop-header l = AddsMarks l.initial.marks l.marks (ChangeAmong l.table (take l.header-index l.headers))
