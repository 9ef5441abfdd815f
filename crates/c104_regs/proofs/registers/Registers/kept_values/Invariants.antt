use Rattle.{c104_regs.{proofs.KeptEntries.entries, specs.KeptValues.kept_value}, std.proofs.Common.{◌-◌, ◌≡◌, ◌≤◌}}
use Rattle.c104_regs.proofs.registers.Registers.kept_values.Given as goal

-- the values of the addresses so far
abbrev pub invariant-loop-addr : goal.invariant-loop-addr
invariant-loop-addr l = (l.values.items ≡ entries (kept_value l.settings) 0 l.addr) × (l.addr ≤ 8448)

abbrev pub decreases-loop-addr : goal.decreases-loop-addr
decreases-loop-addr l = 8448 - l.addr
