use Rattle.{c104_switch.specs.Claims.inputs_claim, std.proofs.Common.{false, is_some, ℕ, ◌<◌, ◌≡◌, ◌≤◌}}

-- no output so far can be claimed
abbrev pub invariant-loop-output : Rattle.c104_switch.proofs.inputs.InputsOf.next_claim.Given.invariant-loop-output
invariant-loop-output g l = record {
  begun : l.from ≤ l.output;
  passed : (o : ℕ) → l.from ≤ o → o < l.output → is_some (inputs_claim l.registers.settings l.self l.outputs l.link o) ≡ false;
}
