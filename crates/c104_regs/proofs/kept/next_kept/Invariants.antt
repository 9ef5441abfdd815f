use Rattle.{c104_regs.specs.KeptValues.kept_value, std.proofs.Common.{None, ℕ, ◌-◌, ◌<◌, ◌≡◌, ◌≤◌}}
use Rattle.c104_regs.proofs.kept.next_kept.Given as goal

-- nothing is kept of the addresses that were passed over
abbrev pub invariant-loop-next : goal.invariant-loop-next
invariant-loop-next l = record {
  passed : (a : ℕ) → l.addr ≤ a → a < l.next → kept_value l.settings a ≡ None;
  after : l.addr ≤ l.next;
  within : l.next ≤ 8448;
}

abbrev pub decreases-loop-next : goal.decreases-loop-next
decreases-loop-next l = 8448 - l.next
