use Rattle.{c104_turns.{proofs.TurnSteps.Leads, specs.Turns.{InTurn, Often, events_at}}, std.proofs.Common.drop}

-- all comes to what the events of the numbers that are left come to
abbrev pub invariant-loop-number : Rattle.c104_turns.proofs.turns.Worker.do_ready.Given.invariant-loop-number
invariant-loop-number g l =
    Leads (λ end new. InTurn (Often g.P.NodePort.due g.P.NodePort.done l.self l.self.times) (events_at l.events (drop l.number-index l.ready)) l.port end new)
    (λ end new. InTurn (Often g.P.NodePort.due g.P.NodePort.done l.self l.self.times) (events_at l.events l.ready) l.initial.port end new)
