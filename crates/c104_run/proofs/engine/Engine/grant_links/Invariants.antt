use Rattle.{c104_node.specs.{Places.states, declared.port_part.PortPart.PortPart}, c104_plan.specs.{Plans.Plan, declared.ports.Port.Port}}
use Rattle.c104_run.{proofs.EngineParts.SoFar, specs.{Engines.engine_network, LinkedSets.HasReady, NotedSwitches.LeavesUnnoted}}
use Rattle.{c104_run.specs.{RoundParts.port_walk, Rounds.link_numbers}, std.proofs.Common.{map, ◌-◌}}
use Rattle.c104_run.proofs.engine.Engine.grant_links.Given as goal

-- the grants of the links so far, which leave the nodes at all other places that aren't in the set
abbrev pub invariant-loop-link : goal.invariant-loop-link
invariant-loop-link g l = SoFar g.T.TokenKind.kind g.P.Place.keeps g.M.Meter.sees g.P.Place.shown (λ (plan : Plan). port_walk plan PortPart.Credit (Port.Switch l.switch)) (λ (plan : Plan). link_numbers) (λ (plan : Plan). 32) l.initial.self l.initial.meter l.from l.changed l.self l.meter
    × LeavesUnnoted l.switch l.initial.granting (states (map g.P.Place.shown l.initial.self.places)) l.granting (states (map g.P.Place.shown l.self.places))
    × HasReady g.T.TokenKind.kind PortPart.Credit l.switch (engine_network g.P.Place.shown l.self) l.from l.ready

abbrev pub decreases-loop-link : goal.decreases-loop-link
decreases-loop-link g l = 32 - l.from
