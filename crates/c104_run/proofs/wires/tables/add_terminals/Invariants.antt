use Rattle.{c104_run.{proofs.EndTables.from_terminal, specs.FarEnds.ends_by}, std.proofs.Common.{length, ◌-◌, ◌≡◌}}

-- the last terminals have joined
abbrev pub invariant-loop-done : Rattle.c104_run.proofs.wires.tables.add_terminals.Given.invariant-loop-done
invariant-loop-done l = l.ends ≡ ends_by (from_terminal l.plan l.terminals l.plan.wires (length l.terminals - l.done)) (length l.plan.switches)
