-- How often a number stands in a list.
use Rattle.std.specs.{List.count_by, Prelude.{List, if◌then◌else◌, nat_le, nat_lt, ℕ, ◌&&◌, ◌==◌, ◌≡◌, ◌≤◌}}

-- how often a number stands in a list
abbrev pub count_of : ℕ → List ℕ → ℕ
count_of x xs = count_by (λ y. x == y) xs

-- 1 for a number from low on and below high, and 0 for any other
abbrev pub one_within : ℕ → ℕ → ℕ → ℕ
one_within low high x = if nat_le low x && nat_lt x high then 1 else 0

-- these are the numbers from low on and below high, each once, in any order
abbrev pub AreOnce : ℕ → ℕ → List ℕ → Type 0
AreOnce low high xs = (x : ℕ) → count_of x xs ≡ one_within low high x

-- these are numbers from low on and below high, none of them twice
abbrev pub AreNoneTwice : ℕ → ℕ → List ℕ → Type 0
AreNoneTwice low high xs = (x : ℕ) → count_of x xs ≤ one_within low high x
