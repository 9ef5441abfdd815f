use Rattle.{c104_node.specs.declared.port_part.PortPart.PortPart, c104_plan.specs.{Plans.Plan, declared.ports.Port.Port}}
use Rattle.c104_run.{proofs.EngineParts.SoFar, specs.{Engines.engine_network, LinkedSets.HasReady, RoundParts.port_walk}}
use Rattle.{c104_run.specs.Rounds.link_numbers, std.proofs.Common.◌-◌}
use Rattle.c104_run.proofs.engine.Engine.cross_links.Given as goal

-- the events of the links so far, and which of the others are ready
abbrev pub invariant-loop-link : goal.invariant-loop-link
invariant-loop-link g l = SoFar g.T.TokenKind.kind g.P.Place.keeps g.M.Meter.sees g.P.Place.shown (λ (plan : Plan). port_walk plan PortPart.Cross (Port.Switch l.switch)) (λ (plan : Plan). link_numbers) (λ (plan : Plan). 32) l.initial.self l.initial.meter l.from l.changed l.self l.meter
    × HasReady g.T.TokenKind.kind PortPart.Cross l.switch (engine_network g.P.Place.shown l.self) l.from l.ready

abbrev pub decreases-loop-link : goal.decreases-loop-link
decreases-loop-link g l = 32 - l.from
