use Rattle.{c104_label.proofs.CubeRows.{cube_down, cube_own, cube_up}, std.proofs.Common.◌≡◌}
use Rattle.c104_label.proofs.cubes.cube_rows.Given as goal

abbrev pub invariant-loop-passed : goal.invariant-loop-passed
invariant-loop-passed l = l.rows.items ≡ cube_down l.dimensions l.terminals l.switch l.passed

abbrev pub invariant-loop-terminal : goal.invariant-loop-terminal
invariant-loop-terminal l = l.rows.items ≡ cube_own l.dimensions l.terminals l.switch l.terminal

abbrev pub invariant-loop-bit : goal.invariant-loop-bit
invariant-loop-bit l = l.rows.items ≡ cube_up l.dimensions l.terminals l.switch l.bit
