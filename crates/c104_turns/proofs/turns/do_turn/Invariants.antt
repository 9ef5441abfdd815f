use Rattle.{c104_turns.{proofs.TurnSteps.Leads, specs.Turns.InTurn}, std.proofs.Common.{drop, map}}

-- all comes to what the parts that are left come to
abbrev pub invariant-loop-part : Rattle.c104_turns.proofs.turns.do_turn.Given.invariant-loop-part
invariant-loop-part g l =
    Leads (λ end new. InTurn (λ part old end new. g.P.PartPort.due old part end new) (drop l.part-index (map (λ part. part.now) l.parts)) l.port end new)
    (λ end new. InTurn (λ part old end new. g.P.PartPort.due old part end new) (map (λ part. part.now) l.parts) l.initial.port end new)
