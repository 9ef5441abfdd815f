use Rattle.{c104_node.specs.{Places.states, declared.port_part.PortPart.PortPart}, c104_plan.specs.Plans.Plan}
use Rattle.c104_run.{proofs.EngineParts.SoFar, specs.{HandedWords.all_worded, NotedSwitches.{AreSo, ClaimsNone, GrantsNone}}}
use Rattle.{c104_run.specs.RoundParts.link_walk, std.{proofs.Common.{length, map, ℕ, ◌-◌}, specs.List.range_with_len}}
use Rattle.c104_run.proofs.engine.Engine.turn_switches.Given as goal

-- the turns of the switches so far, and what they left is noted
abbrev pub invariant-loop-switch : goal.invariant-loop-switch
invariant-loop-switch g l = SoFar g.T.TokenKind.kind g.P.Place.keeps g.M.Meter.sees g.P.Place.shown (λ (plan : Plan) (j : ℕ). all_worded l.words (link_walk plan PortPart.Turn j)) (λ (plan : Plan). range_with_len 0 (length plan.switches)) (λ (plan : Plan). length plan.switches) l.initial.self l.initial.meter l.from l.changed l.self l.meter
    × AreSo ClaimsNone l.noted.claiming (states (map g.P.Place.shown l.self.places)) 0 l.from
    × AreSo (GrantsNone g.T.TokenKind.kind l.initial.self.plan) l.noted.granting (states (map g.P.Place.shown l.self.places)) 0 l.from

abbrev pub decreases-loop-switch : goal.decreases-loop-switch
decreases-loop-switch g l = length l.initial.self.plan.switches - l.from
