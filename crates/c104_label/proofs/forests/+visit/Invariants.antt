use Rattle.std.proofs.Common.{length, ◌*◌, ◌+◌, ◌-◌}

-- the switches that are left, and then the links
abbrev pub decreases-visit : Rattle.c104_label.proofs.forests.+visit.Given.decreases-visit
decreases-visit l = 33 * (length l.plan.now.switches - length l.seen.now.items) + (32 - l.link)
