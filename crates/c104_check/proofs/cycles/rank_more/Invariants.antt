use Rattle.{c104_check.specs.{Cycles.{IsRankingPass, LeadsToUnranked}, Dependencies.Dependency, Ranks.rank_at}, std.proofs.Common.false}
use Rattle.std.proofs.Common.{ℕ, ◌<◌, ◌≡◌}

-- where nothing was ranked, each of the inputs so far that has no rank depends on such a one
abbrev pub invariant-loop-place : Rattle.c104_check.proofs.cycles.rank_more.Given.invariant-loop-place
invariant-loop-place l = record {
  pass : IsRankingPass l.table l.fn.ranks l.ranks l.more;
  stuck : l.more ≡ false → (k : ℕ) → k < l.place → rank_at l.fn.ranks k ≡ 0 → (d : Dependency) × LeadsToUnranked l.table l.fn.ranks k d;
}
