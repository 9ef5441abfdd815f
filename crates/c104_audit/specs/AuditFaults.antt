-- Why lists are not those of one run: the first clause of an audit that fails, at the least number at which it does.
use Rattle.c104_audit.specs.{Audits.{AgreeAtEnds, IsAsBefore, IsCalled, IsOrdered, IsShaped}, declared.faults.AuditFault.AuditFault}
use Rattle.c104_audit.specs.declared.lists.Lists.{Lists}
use Rattle.std.specs.Prelude.{ℕ, ◌<◌}

-- this is so of every number
abbrev pub Everywhere : (ℕ → Type 0) → Type 0
Everywhere P = (k : ℕ) → P k

-- this is so of each lower number, and not of this one
pub record FailsFirst (P : ℕ → Type 0) (k : ℕ) : Type 0 where
  pub lower : (i : ℕ) → i < k → P i
  pub fails : P k → ⊥

-- the fault's clause fails first at its number, and all clauses before it hold
abbrev pub IsFault : Lists → AuditFault → Type 0
IsFault lists (AuditFault.Shape k) = FailsFirst (IsShaped lists) k
IsFault lists (AuditFault.Order k) = Everywhere (IsShaped lists) × FailsFirst (IsOrdered lists) k
IsFault lists (AuditFault.Ends i) =
    Everywhere (IsShaped lists) × Everywhere (IsOrdered lists) × FailsFirst (AgreeAtEnds lists) i
IsFault lists (AuditFault.Calls s) =
    Everywhere (IsShaped lists) × Everywhere (IsOrdered lists) × Everywhere (AgreeAtEnds lists)
    × FailsFirst (IsCalled lists) s
IsFault lists (AuditFault.Before k) =
    Everywhere (IsShaped lists) × Everywhere (IsOrdered lists) × Everywhere (AgreeAtEnds lists)
    × Everywhere (IsCalled lists) × FailsFirst (IsAsBefore lists) k
IsFault lists AuditFault.NoMemory = Unit {0}
