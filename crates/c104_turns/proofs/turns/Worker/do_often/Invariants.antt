use Rattle.{c104_turns.{proofs.TurnSteps.Leads, specs.Turns.Often}, std.proofs.Common.◌-◌}

-- all comes to what the times that are left come to
abbrev pub invariant-loop-time : Rattle.c104_turns.proofs.turns.Worker.do_often.Given.invariant-loop-time
invariant-loop-time g l =
    Leads (λ end new. Often g.P.NodePort.due g.P.NodePort.done l.self (l.self.times - l._time) l.event l.port end new)
    (λ end new. Often g.P.NodePort.due g.P.NodePort.done l.self l.self.times l.event l.initial.port end new)
