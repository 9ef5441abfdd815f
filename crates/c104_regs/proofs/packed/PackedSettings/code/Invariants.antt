-- The header is below the beginning of each row so far, and so of the next.
use Rattle.{c104_interval.specs.Selection.select, c104_regs.{proofs.PackedPokes.select_past, specs.Packed.row_of_word}}
use Rattle.std.proofs.Common.{drop, map, ◌≡◌}

abbrev pub invariant-loop-row : Rattle.c104_regs.proofs.packed.PackedSettings.code.Given.invariant-loop-row
invariant-loop-row l = select_past (map row_of_word (drop l.row l.self-inside.rows)) l.header ≡ select l.self.table l.header
