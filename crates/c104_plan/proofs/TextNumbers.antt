-- The value of a few digits is small.
use Rattle.std.proofs.{Common.{arith, ℕ, ◌<◌, ◌^◌, ◌≤◌}, Math.Nat.pow-le-pow_right}

pub below_most : (value digits most : ℕ) → value < 10 ^ digits → digits ≤ most → value < 10 ^ most
below_most value digits most small few = search (arith, pow-le-pow_right)
