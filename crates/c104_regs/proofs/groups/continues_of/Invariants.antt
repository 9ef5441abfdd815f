-- The bits are those of the links from here on.
use Rattle.{c104_regs.specs.Groups.continue_bits, std.proofs.Common.{drop, length, ◌≡◌, ◌≤◌}}
use Rattle.c104_regs.proofs.groups.continues_of.Given as goal

abbrev pub invariant-loop-link : goal.invariant-loop-link
invariant-loop-link l = (l.link ≤ length l.settings) × (l.bits ≡ continue_bits (drop l.link l.settings))

abbrev pub decreases-loop-link : goal.decreases-loop-link
decreases-loop-link l = l.link
