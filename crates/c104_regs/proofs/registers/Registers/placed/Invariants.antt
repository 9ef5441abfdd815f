-- The settings of the links so far.
use Rattle.std.proofs.Common.{length, take, ◌≡◌}

abbrev pub invariant-loop-link : Rattle.c104_regs.proofs.registers.Registers.placed.Given.invariant-loop-link
invariant-loop-link l = (length l.own ≡ 32) × (take l.link l.own ≡ take l.link l.settings)
