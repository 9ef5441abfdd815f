use Rattle.{c104_lean.specs.Working.HasCalls, std.proofs.Common.◌≡◌}

-- the times so far
abbrev pub invariant-loop-time : Rattle.c104_lean.proofs.doing.cross_often.Given.invariant-loop-time
invariant-loop-time g l =
    HasCalls (λ e. e ≡ l.event) l.initial.seat l.seat × (l.near.place ≡ l.initial.near.place) × (l.far.place ≡ l.initial.far.place)
