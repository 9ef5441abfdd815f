-- Numbers as they are told: counts stop at the largest number of their size, which none comes near.
use Rattle.std.specs.Prelude.{min, suc, zero, ℕ}

-- a count in 64 bits
abbrev pub told : ℕ → ℕ
told n = min n 18446744073709551615

-- a number of rounds, of wires or of bytes in 32 bits
abbrev pub few : ℕ → ℕ
few n = min n 4294967295

-- a step for each number below this one, from 0 on
unfoldable pub each_number : {X : Type 0} → (ℕ → X → X) → ℕ → X → X
each_number step zero x = x
each_number step (suc n) x = step n (each_number step n x)
