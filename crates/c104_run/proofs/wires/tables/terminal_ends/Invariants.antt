use Rattle.{c104_plan.specs.declared.ports.Port.Port, c104_run.specs.FarEnds.far_end, std.proofs.Common.{map, ◌≡◌}}
use Rattle.std.specs.List.{range_with_len}

-- the far ends of the terminals so far
abbrev pub invariant-loop-number : Rattle.c104_run.proofs.wires.tables.terminal_ends.Given.invariant-loop-number
invariant-loop-number l = l.ends.items ≡ map (λ t. far_end l.plan (Port.Terminal t)) (range_with_len 0 l.number)
