-- Sorting and taking out repeats leaves just the separators, and the rest follows from that.
use Rattle.c104_interval.proofs.SegmentLemmas.{AreSegmentsBelow-from, IsConstantBetween-from, SelectsBySegment-from, starts_with_zero_from}
use Rattle.std.proofs.lemmas.List.{Filters.dedup_is, Kept.{Contains-dedup_nat, Contains-from_dedup}, Sorted.Contains-permutation}
use Rattle.std.proofs.lemmas.{List.Sorted.IsPermutation-sym, Map.Keys.IsStrictlyIncreasing-dedup}
use Rattle.c104_interval.proofs.intervals.Table.segments.Goals as goal

pub returns-clause-ascending : goal.returns-clause-ascending
returns-clause-ascending c = rw (dedup_is _ _ _ c.dedup.ensures.filtered) (IsStrictlyIncreasing-dedup _ c.sort_unstable.ensures.sorted)

pub returns-clause-members : goal.returns-clause-members
returns-clause-members c =
    let is = dedup_is _ _ _ c.dedup.ensures.filtered in
    let moved = c.sort_unstable.ensures.permutation in
    let made = c.in_ok-segments.ensures in
    AreSegmentsBelow-from _ _ _ (λ h. (
      (λ here. rw (← made) (Contains-permutation _ _ h (IsPermutation-sym _ _ moved) (Contains-from_dedup _ _ h (rw is at here)))),
      (λ here. rw is (Contains-dedup_nat _ h (Contains-permutation _ _ h moved (rw (← made) at here)))),
    ))

pub returns-clause-first : goal.returns-clause-first
returns-clause-first c = starts_with_zero_from _ _ _ c.requires (returns-clause-ascending c) (returns-clause-members c)

pub returns-clause-located : goal.returns-clause-located
returns-clause-located c = SelectsBySegment-from _ _ _ c.requires (returns-clause-members c)

pub returns-clause-constant : goal.returns-clause-constant
returns-clause-constant c = IsConstantBetween-from _ _ _ (returns-clause-members c)
