use Rattle.{c104_run.specs.FarEnds.{end_by, ends_by}, std.proofs.Common.{drop, length, ◌-◌, ◌≡◌}}

-- the last wires have joined
abbrev pub invariant-loop-done : Rattle.c104_run.proofs.wires.tables.add_wires.Given.invariant-loop-done
invariant-loop-done l = l.ends ≡ ends_by (end_by l.plan (drop (length l.wires - l.done) l.wires)) (length l.plan.switches)
