use Rattle.{c104_node.specs.{Places.states, declared.port_part.PortPart.PortPart}, c104_plan.specs.Plans.Plan}
use Rattle.{c104_run.{proofs.EngineParts.SoFar, specs.{NotedSwitches.{AreSo, GrantsNone}, RoundParts.link_walk}}, std.proofs.Common.length}
use Rattle.std.{proofs.Common.{map, ◌-◌}, specs.List.range_with_len}
use Rattle.c104_run.proofs.engine.Engine.grant_switches.Given as goal

-- the grants of the switches so far; of the others those that aren't noted grant nothing
abbrev pub invariant-loop-switch : goal.invariant-loop-switch
invariant-loop-switch g l = SoFar g.T.TokenKind.kind g.P.Place.keeps g.M.Meter.sees g.P.Place.shown (λ (plan : Plan). link_walk plan PortPart.Credit) (λ (plan : Plan). range_with_len 0 (length plan.switches)) (λ (plan : Plan). length plan.switches) l.initial.self l.initial.meter l.from l.changed l.self l.meter
    × AreSo (GrantsNone g.T.TokenKind.kind l.initial.self.plan) l.granting (states (map g.P.Place.shown l.self.places)) l.from (length l.initial.self.plan.switches)

abbrev pub decreases-loop-switch : goal.decreases-loop-switch
decreases-loop-switch g l = length l.initial.self.plan.switches - l.from
