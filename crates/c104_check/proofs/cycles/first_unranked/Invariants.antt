use Rattle.{c104_check.specs.Ranks.rank_at, std.proofs.Common.{ℕ, ◌<◌}}

-- the places so far have ranks
abbrev pub invariant-loop-place : Rattle.c104_check.proofs.cycles.first_unranked.Given.invariant-loop-place
invariant-loop-place l = (k : ℕ) → k < l.place → 0 < rank_at l.ranks k
