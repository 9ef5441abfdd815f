use Rattle.{c104_node.specs.Places.states, c104_plan.specs.Plans.Plan, c104_run.proofs.EngineParts.SoFar}
use Rattle.{c104_run.specs.{NotedSwitches.LeavesOthers, RoundParts.output_walk, Rounds.link_numbers}, std.proofs.Common.{map, ◌-◌}}
use Rattle.c104_run.proofs.engine.Engine.claim_in_switch.Given as goal

-- the claims of the inputs so far
abbrev pub invariant-loop-input : goal.invariant-loop-input
invariant-loop-input g l = SoFar g.T.TokenKind.kind g.P.Place.keeps g.M.Meter.sees g.P.Place.shown (λ (plan : Plan). output_walk l.switch) (λ (plan : Plan). link_numbers) (λ (plan : Plan). 32) l.initial.self l.initial.meter l.from l.changed l.self l.meter
    × LeavesOthers l.switch (states (map g.P.Place.shown l.initial.self.places)) (states (map g.P.Place.shown l.self.places))

abbrev pub decreases-loop-input : goal.decreases-loop-input
decreases-loop-input g l = 32 - l.from
