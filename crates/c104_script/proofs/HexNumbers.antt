-- How large the value of a number of hexadecimal digits may be.
use Rattle.std.proofs.{Common.{arith, lit<, ℕ, ◌<◌, ◌^◌, ◌≤◌}, Math.Nat.pow-le-pow_right}

pub below_most : (value digits most : ℕ) → value < 16 ^ digits → digits ≤ most → value < 16 ^ most
below_most value digits most small few =
    let more : 16 ^ digits ≤ 16 ^ most = pow-le-pow_right (lit< tt) few in
    omega arith
