use Rattle.c104_tools.{proofs.{Asking.Leaves, Rests.peeks_left}, specs.{Loads.switch_peeks, Outcomes.due_value_only, Ports.Commanded}}

-- the addresses that are left are compared
abbrev pub invariant-loop-addr : Rattle.c104_tools.proofs.verifying.verify_switch.Given.invariant-loop-addr
invariant-loop-addr g l =
    Leaves (Commanded g.P.ControlPort.commands g.P.ControlPort.switch_count g.P.ControlPort.shown g.P.ControlPort.unanswered g.P.ControlPort.due)
    due_value_only l.initial.port (switch_peeks l.switch l.kept) l.port (peeks_left l.switch l.kept l.addr 8448)
