use Rattle.{c104_rows.specs.{Numbers.each_number, Sights.wired_seen}, std.proofs.Common.{◌-◌, ◌≡◌, ◌≤◌}}
use Rattle.c104_rows.proofs.sights.see_links.Given as goal

-- those so far
abbrev pub invariant-loop-link : goal.invariant-loop-link
invariant-loop-link l = record {
  seen : l.counts ≡ each_number (wired_seen l.net.network l.switch) l.from l.initial.counts;
  within : l.from ≤ 32;
}

abbrev pub decreases-loop-link : goal.decreases-loop-link
decreases-loop-link l = 32 - l.from
