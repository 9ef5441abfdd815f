use Rattle.{c104_node.specs.Places.states, c104_plan.specs.Plans.Plan, c104_run.{proofs.EngineParts.SoFar, specs.NotedSwitches.AreSo}}
use Rattle.{c104_run.specs.{NotedSwitches.{ClaimsNone, GrantsNone}, RoundParts.input_walk}, std.proofs.Common.{length, map, ◌-◌}}
use Rattle.std.specs.List.{range_with_len}
use Rattle.c104_run.proofs.engine.Engine.claim_outputs.Given as goal

-- the claims of the switches so far; of the others those that aren't noted claim nothing
abbrev pub invariant-loop-switch : goal.invariant-loop-switch
invariant-loop-switch g l = SoFar g.T.TokenKind.kind g.P.Place.keeps g.M.Meter.sees g.P.Place.shown (λ (plan : Plan). input_walk) (λ (plan : Plan). range_with_len 0 (length plan.switches)) (λ (plan : Plan). length plan.switches) l.initial.self l.initial.meter l.from l.changed l.self l.meter
    × AreSo ClaimsNone l.noted.claiming (states (map g.P.Place.shown l.self.places)) l.from (length l.initial.self.plan.switches)
    × AreSo (GrantsNone g.T.TokenKind.kind l.initial.self.plan) l.noted.granting (states (map g.P.Place.shown l.self.places)) 0 (length l.initial.self.plan.switches)

abbrev pub decreases-loop-switch : goal.decreases-loop-switch
decreases-loop-switch g l = length l.initial.self.plan.switches - l.from
