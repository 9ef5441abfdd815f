use Rattle.{c104_readback.proofs.CopiedSettings.HaveLabels, std.proofs.Common.{length, ◌≡◌}}

-- the terminals before this one have their labels, and all switches are as after a reset
abbrev pub invariant-loop-terminal : Rattle.c104_readback.proofs.registers.blank_image.Given.invariant-loop-terminal
invariant-loop-terminal l = record {
  labels : HaveLabels l.image.ranges l.blank.ranges l.terminal;
  count : length l.blank.ranges ≡ length l.image.ranges;
  settings : l.blank.settings ≡ l.initial.blank.settings;
}
