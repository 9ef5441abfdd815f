use Rattle.{c104_tools.{proofs.Asking.Leaves, specs.{Loads.pokes, Outcomes.any_value, Ports.Commanded}}, std.proofs.Common.drop}

-- the values that are left are poked
abbrev pub invariant-loop-entry : Rattle.c104_tools.proofs.loading.poke_values.Given.invariant-loop-entry
invariant-loop-entry g l =
    Leaves (Commanded g.P.ControlPort.commands g.P.ControlPort.switch_count g.P.ControlPort.shown g.P.ControlPort.unanswered g.P.ControlPort.due)
    any_value l.initial.port (pokes l.switch l.values) l.port (pokes l.switch (drop l.entry-index l.values))
