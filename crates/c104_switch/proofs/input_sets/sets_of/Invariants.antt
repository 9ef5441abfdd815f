use Rattle.{c104_switch.specs.Readiness.IsKept, std.proofs.Common.{None, slice_get, ℕ, ◌<◌, ◌≤◌}}

-- the sets have the inputs so far, and no other link
abbrev pub invariant-loop-link : Rattle.c104_switch.proofs.input_sets.sets_of.Given.invariant-loop-link
invariant-loop-link g l = record {
  so_far : (k : ℕ) → k < 32 → k < l.link → IsKept l.sets k (slice_get l.list k);
  others : (k : ℕ) → k < 32 → l.link ≤ k → IsKept {A = g.row.T.Denot} l.sets k None;
}
