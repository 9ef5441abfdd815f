use Rattle.c104_tools.{proofs.Asking.Leaves, specs.{Loads.{steps_from, switch_peeks}, Outcomes.due_value_only, Ports.Commanded}}
use Rattle.std.proofs.Common.{drop}

-- the switches that are left are compared
abbrev pub invariant-loop-switch : Rattle.c104_tools.proofs.verifying.verify_all.Given.invariant-loop-switch
invariant-loop-switch g l =
    Leaves (Commanded g.P.ControlPort.commands g.P.ControlPort.switch_count g.P.ControlPort.shown g.P.ControlPort.unanswered g.P.ControlPort.due)
    due_value_only l.initial.port (steps_from switch_peeks 0 l.image) l.port (steps_from switch_peeks l.switch (drop l.switch l.image))
