use Rattle.{c104_readback.proofs.CopiedSettings.{AreCopied, StayReset}, std.proofs.Common.{length, ◌≡◌}}

-- the switches before this one have their registers, and those from it on are as after a reset
abbrev pub invariant-loop-switch : Rattle.c104_readback.proofs.registers.copy_registers.Given.invariant-loop-switch
invariant-loop-switch l = record {
  ranges : l.left.ranges ≡ l.initial.left.ranges;
  count : length l.left.settings ≡ length l.initial.left.settings;
  copied : AreCopied l.net.network.nodes l.left.settings l.switch;
  reset : StayReset l.left.settings l.switch;
}
