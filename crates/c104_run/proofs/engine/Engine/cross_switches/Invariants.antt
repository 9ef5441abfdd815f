use Rattle.{c104_node.specs.declared.port_part.PortPart.PortPart, c104_plan.specs.Plans.Plan, c104_run.proofs.EngineParts.SoFar}
use Rattle.{c104_run.specs.RoundParts.link_walk, std.{proofs.Common.{length, ◌-◌}, specs.List.range_with_len}}
use Rattle.c104_run.proofs.engine.Engine.cross_switches.Given as goal

-- the events of the switches so far
abbrev pub invariant-loop-switch : goal.invariant-loop-switch
invariant-loop-switch g l = SoFar g.T.TokenKind.kind g.P.Place.keeps g.M.Meter.sees g.P.Place.shown (λ (plan : Plan). link_walk plan PortPart.Cross) (λ (plan : Plan). range_with_len 0 (length plan.switches)) (λ (plan : Plan). length plan.switches) l.initial.self l.initial.meter l.from l.changed l.self l.meter

abbrev pub decreases-loop-switch : goal.decreases-loop-switch
decreases-loop-switch g l = length l.initial.self.plan.switches - l.from
