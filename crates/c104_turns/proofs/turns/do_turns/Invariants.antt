use Rattle.{c104_turns.{proofs.TurnSteps.Leads, specs.Turns.TurnsDone}, std.proofs.Common.{map, ◌-◌}}

-- all comes to what the turns that are left come to
abbrev pub invariant-loop-turn : Rattle.c104_turns.proofs.turns.do_turns.Given.invariant-loop-turn
invariant-loop-turn g l =
    Leads (λ end new. TurnsDone g.P.PartPort.due g.P.PartPort.done (map (λ part. part.now) l.parts) l.most_idle (l.turns - l.turn) l.idle_left l.port end new)
    (λ end new. TurnsDone g.P.PartPort.due g.P.PartPort.done (map (λ part. part.now) l.parts) l.most_idle l.turns l.most_idle l.initial.port end new)
