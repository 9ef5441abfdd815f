use Rattle.std.proofs.Common.{get_or, ℕ, ◌<◌, ◌≡◌}

-- it is none of those that were passed
abbrev pub invariant-loop-position : Rattle.c104_run.proofs.turns.Order.position.Given.invariant-loop-position
invariant-loop-position l = (k : ℕ) → k < l.position → get_or l.fn.self k 0 ≡ l.link → ⊥
