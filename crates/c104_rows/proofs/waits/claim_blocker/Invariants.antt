use Rattle.{c104_regs.specs.declared.registers.TheConstants.LINKS, c104_rows.specs.Waits.claim_blocker, std.proofs.Common.{◌-◌, ◌≡◌}}

-- what is left tells it
abbrev pub invariant-loop-output : Rattle.c104_rows.proofs.waits.claim_blocker.Given.invariant-loop-output
invariant-loop-output l = claim_blocker l.net l.input (LINKS - l.output) l.output ≡ claim_blocker l.net l.input LINKS 0
