use Rattle.{c104_plan.specs.declared.ports.Port.Port, c104_run.{proofs.StillParts.{left, tested}, specs.Engines.engine_network}}
use Rattle.{c104_run.specs.{RoundParts.port_walk, Standstill.has_reason}, std.proofs.Common.◌≡◌}

-- those that are left tell it
abbrev pub invariant-loop-link : Rattle.c104_run.proofs.engine.Engine.links_stand.Given.invariant-loop-link
invariant-loop-link g l = left (has_reason (engine_network g.P.Place.shown l.self)) (port_walk l.self.plan l.part (Port.Switch l.switch)) 32 l.link ≡ tested (has_reason (engine_network g.P.Place.shown l.self)) (port_walk l.self.plan l.part (Port.Switch l.switch)) 32
