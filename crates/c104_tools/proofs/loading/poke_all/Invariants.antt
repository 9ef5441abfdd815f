use Rattle.c104_tools.{proofs.Asking.Leaves, specs.{Loads.{steps_from, switch_pokes}, Outcomes.any_value, Ports.Commanded}}
use Rattle.std.proofs.Common.{drop}

-- the switches that are left are poked
abbrev pub invariant-loop-switch : Rattle.c104_tools.proofs.loading.poke_all.Given.invariant-loop-switch
invariant-loop-switch g l =
    Leaves (Commanded g.P.ControlPort.commands g.P.ControlPort.switch_count g.P.ControlPort.shown g.P.ControlPort.unanswered g.P.ControlPort.due)
    any_value l.initial.port (steps_from switch_pokes 0 l.image) l.port (steps_from switch_pokes l.switch (drop l.switch l.image))
