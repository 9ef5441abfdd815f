use Rattle.std.proofs.Common.{get_or, length, ℕ, ◌<◌, ◌≡◌}

-- those that were passed
abbrev pub invariant-loop-link : Rattle.c104_run.proofs.turns.Order.first.Given.invariant-loop-link
invariant-loop-link l = (length l.links ≡ 32) × ((k : ℕ) → k < l.link → get_or l.links k 0 ≡ k)
