use Rattle.c104_run.{proofs.StillParts.{left, tested}, specs.{Engines.engine_network, RoundParts.link_walk, Standstill.has_reason}}
use Rattle.std.proofs.Common.{length, ◌≡◌}

-- those that are left tell it
abbrev pub invariant-loop-switch : Rattle.c104_run.proofs.engine.Engine.switches_stand.Given.invariant-loop-switch
invariant-loop-switch g l = left (has_reason (engine_network g.P.Place.shown l.self)) (link_walk l.self.plan l.part) (length l.self.plan.switches) l.switch ≡ tested (has_reason (engine_network g.P.Place.shown l.self)) (link_walk l.self.plan l.part) (length l.self.plan.switches)
