use Rattle.{c104_tools.{proofs.{Readings.Reads, Rests.numbers_left}, specs.{Outcomes.peeks_at, Ports.Commanded}}, std.proofs.Common.length}
use Rattle.std.{proofs.Common.{take, ◌+◌}, specs.List.range_with_len}

-- the values so far were read, and the others are left
abbrev pub invariant-loop-i : Rattle.c104_tools.proofs.reading.read_run.Given.invariant-loop-i
invariant-loop-i g l =
    Reads (Commanded g.P.ControlPort.commands g.P.ControlPort.switch_count g.P.ControlPort.shown g.P.ControlPort.unanswered g.P.ControlPort.due)
    l.initial.port (peeks_at l.switch (range_with_len l.first (length l.initial.values))) (take l.i l.values)
    l.port (peeks_at l.switch (numbers_left (l.first + l.i) (l.first + length l.initial.values)))
