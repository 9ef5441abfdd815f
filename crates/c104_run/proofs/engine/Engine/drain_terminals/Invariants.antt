use Rattle.{c104_event.specs.declared.events.Event.Event, c104_node.specs.Places.states, c104_plan.specs.Plans.Plan}
use Rattle.{c104_run.proofs.EngineParts.SoFar, std.proofs.Common.{[], length, map, slice_get, ℕ, ◌-◌, ◌<◌, ◌∷◌, ◌≡◌}}
use Rattle.std.specs.List.{range_with_len}
use Rattle.c104_run.proofs.engine.Engine.drain_terminals.Given as goal

-- the arrivals so far, which leave the switches
abbrev pub invariant-loop-terminal : goal.invariant-loop-terminal
invariant-loop-terminal g l = SoFar g.T.TokenKind.kind g.P.Place.keeps g.M.Meter.sees g.P.Place.shown (λ (plan : Plan) (t : ℕ). Event.Drain t ∷ []) (λ (plan : Plan). range_with_len 0 (length plan.terminals)) (λ (plan : Plan). length plan.terminals) l.initial.self l.initial.meter l.from l.changed l.self l.meter
    × ((j : ℕ) → j < length l.initial.self.plan.switches → slice_get (states (map g.P.Place.shown l.self.places)) j ≡ slice_get (states (map g.P.Place.shown l.initial.self.places)) j)

abbrev pub decreases-loop-terminal : goal.decreases-loop-terminal
decreases-loop-terminal g l = length l.initial.self.plan.terminals - l.from
