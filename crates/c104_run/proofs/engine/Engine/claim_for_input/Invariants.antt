use Rattle.{c104_event.specs.declared.events.Event.Event, c104_node.specs.Places.states, c104_plan.specs.Plans.Plan}
use Rattle.{c104_run.{proofs.EngineParts.SoFar, specs.{NotedSwitches.LeavesOthers, Rounds.link_numbers}}, std.proofs.Common.{[], map, ℕ}}
use Rattle.std.proofs.Common.{◌-◌, ◌∷◌}
use Rattle.c104_run.proofs.engine.Engine.claim_for_input.Given as goal

-- the claims so far, which leave the nodes at all other places
abbrev pub invariant-loop-output : goal.invariant-loop-output
invariant-loop-output g l = SoFar g.T.TokenKind.kind g.P.Place.keeps g.M.Meter.sees g.P.Place.shown (λ (plan : Plan) (o : ℕ). Event.Claim l.switch l.input o ∷ []) (λ (plan : Plan). link_numbers) (λ (plan : Plan). 32) l.initial.self l.initial.meter l.from l.changed l.self l.meter
    × LeavesOthers l.switch (states (map g.P.Place.shown l.initial.self.places)) (states (map g.P.Place.shown l.self.places))

abbrev pub decreases-loop-output : goal.decreases-loop-output
decreases-loop-output g l = 32 - l.from
