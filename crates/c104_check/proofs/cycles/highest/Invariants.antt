use Rattle.{c104_check.specs.{Dependencies.{Dependency, dependency_at}, Ranks.{rank_at, rank_in}}, std.proofs.Common.{Some, ℕ, ◌*◌, ◌+◌}}
use Rattle.std.proofs.Common.{◌<◌, ◌≡◌, ◌≤◌}

-- the ranks over the links so far aren't higher
abbrev pub invariant-loop-link : Rattle.c104_check.proofs.cycles.highest.Given.invariant-loop-link
invariant-loop-link l = record {
  above : (o : ℕ) (d : Dependency) → o < l.link → dependency_at l.table (l.place * 32 + o) ≡ Some d → rank_in l.ranks d.next ≤ l.most;
  least : (limit : ℕ) → ((k : ℕ) → rank_at l.ranks k ≤ limit) → l.most ≤ limit;
}
