use Rattle.{c104_readback.proofs.SetSteps.AreLeft, std.proofs.Common.{length, slice_get, ℕ, ◌≡◌, ◌≢◌}}

-- the values that are left make of the switch what all of them make of it
abbrev pub invariant-loop-value : Rattle.c104_readback.proofs.registers.set_values.Given.invariant-loop-value
invariant-loop-value l = record {
  ranges : l.left.ranges ≡ l.initial.left.ranges;
  count : length l.left.settings ≡ length l.initial.left.settings;
  others : (k : ℕ) → k ≢ l.switch → slice_get l.left.settings k ≡ slice_get l.initial.left.settings k;
  left : AreLeft l.initial.left l.left l.switch l.values l.value-index;
}
