use Rattle.std.proofs.Common.{get_or, ℕ, ◌<◌, ◌≡◌}

-- the words so far are those of rows after a reset
abbrev pub invariant-loop-k : Rattle.c104_regs.proofs.packed.are_reset.Given.invariant-loop-k
invariant-loop-k l = (k : ℕ) → k < l.k → get_or l.words k 0 ≡ 8388608
