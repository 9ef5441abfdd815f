use Rattle.{c104_check.specs.{Dependencies.{Dependency, dependency_at}, Ranks.rank_in}, std.proofs.Common.{Some, ℕ, ◌*◌, ◌+◌, ◌<◌, ◌≡◌}}

-- the links so far lead to ranked inputs alone
abbrev pub invariant-loop-link : Rattle.c104_check.proofs.cycles.unranked_next.Given.invariant-loop-link
invariant-loop-link l = (o : ℕ) (d : Dependency) → o < l.link → dependency_at l.table (l.place * 32 + o) ≡ Some d → 0 < rank_in l.ranks d.next
