use Rattle.c104_tools.{proofs.{Asking.Leaves, Rests.numbers_left}, specs.{Loads.{for_each, order}, Outcomes.any_value, Ports.Commanded}}
use Rattle.std.proofs.Common.{map}

-- the switches that are left are asked
abbrev pub invariant-loop-switch : Rattle.c104_tools.proofs.loading.ask_each.Given.invariant-loop-switch
invariant-loop-switch g l =
    Leaves (Commanded g.P.ControlPort.commands g.P.ControlPort.switch_count g.P.ControlPort.shown g.P.ControlPort.unanswered g.P.ControlPort.due)
    any_value l.initial.port (for_each l.count l.command) l.port (map (λ k. order k l.command) (numbers_left l.switch l.count))
