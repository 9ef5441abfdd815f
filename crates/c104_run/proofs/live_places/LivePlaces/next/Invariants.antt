use Rattle.{c104_run.specs.LivePlaces.is_live, std.proofs.Common.{false, ℕ, ◌-◌, ◌<◌, ◌≡◌, ◌≤◌}}
use Rattle.c104_run.proofs.live_places.LivePlaces.next.Given as goal

-- the places so far are passed over
abbrev pub invariant-loop-at : goal.invariant-loop-at
invariant-loop-at l = record {
  passed : (k : ℕ) → l.from ≤ k → k < l.at → is_live l.self k ≡ false;
  after : l.from ≤ l.at;
}

abbrev pub decreases-loop-at : goal.decreases-loop-at
decreases-loop-at l = l.below - l.at
