use Rattle.{c104_crossbar.specs.Groups.has_bit, c104_plan.specs.declared.ports.Port.Port, c104_run.specs.Rounds.is_wired}
use Rattle.std.proofs.Common.{ℕ, ◌<◌, ◌≡◌}

-- the set has the wired ones of the links so far
abbrev pub invariant-loop-link : Rattle.c104_run.proofs.wires.tables.linked_set.Given.invariant-loop-link
invariant-loop-link l = (k : ℕ) → k < 32 → k < l.link → has_bit l.set k ≡ is_wired l.plan (Port.Switch l.switch k)
