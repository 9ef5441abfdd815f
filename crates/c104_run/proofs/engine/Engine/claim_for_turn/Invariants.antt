use Rattle.{c104_event.specs.declared.events.Event.Event, c104_node.specs.Places.states, c104_run.proofs.FairParts.FairSoFar}
use Rattle.c104_run.specs.{Engines.engine_network, LinkedSets.IdleOutside}
use Rattle.{c104_run.specs.NotedSwitches.LeavesOthers, std.proofs.Common.{[], map, slice_get, ℕ, ◌∷◌, ◌≡◌, ◌≢◌}}

-- the claims so far, which leave the nodes and the turns at all other places
abbrev pub invariant-loop-position : Rattle.c104_run.proofs.engine.Engine.claim_for_turn.Given.invariant-loop-position
invariant-loop-position g l = FairSoFar g.T.TokenKind.kind g.P.Place.keeps g.M.Meter.sees g.P.Place.shown (λ (o : ℕ). Event.Claim l.switch l.input o ∷ []) l.fn.outputs l.initial.self l.initial.meter l.initial.turns l.position l.changed l.self l.meter l.turns
    × LeavesOthers l.switch (states (map g.P.Place.shown l.initial.self.places)) (states (map g.P.Place.shown l.self.places))
    × ((k : ℕ) → k ≢ l.switch → slice_get l.turns k ≡ slice_get l.initial.turns k)
    × IdleOutside g.T.TokenKind.kind (engine_network g.P.Place.shown l.self) (λ (o : ℕ). Event.Claim l.switch l.input o ∷ []) l.claimable
