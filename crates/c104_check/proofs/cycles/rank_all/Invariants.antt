use Rattle.{c104_check.specs.Cycles.{ArePartialRanks, unranked_count}, std.proofs.Common.{length, ◌≡◌}}
use Rattle.c104_check.proofs.cycles.rank_all.Given as goal

-- each pass leaves fewer inputs without a rank
abbrev pub decreases-loop : goal.decreases-loop
decreases-loop l = unranked_count l.ranks

abbrev pub invariant-loop : goal.invariant-loop
invariant-loop l = record {
  room : length l.ranks ≡ length l.fn.ranks;
  part : ArePartialRanks l.table l.ranks;
}
