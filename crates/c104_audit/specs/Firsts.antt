-- The first number of which something doesn't hold.
use Rattle.c104_audit.specs.AuditFaults.{Everywhere, FailsFirst}
use Rattle.std.specs.Prelude.{None, Option, Some, if◌then◌else◌, nat_le, ℕ}

-- this is so of every number, or else this is the first of which it isn't
abbrev pub IsFirst : (ℕ → Type 0) → Option ℕ → Type 0
IsFirst P None = Everywhere P
IsFirst P (Some k) = FailsFirst P k

-- the lower of two numbers, if there are any
abbrev pub lower_of : Option ℕ → Option ℕ → Option ℕ
lower_of None other = other
lower_of (Some k) None = Some k
lower_of (Some k) (Some j) = if nat_le k j then Some k else Some j
