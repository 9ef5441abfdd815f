use Rattle.{c104_node.specs.Places.states, c104_run.{proofs.FairParts.FairSoFar, specs.FairRounds.{output_turns, turns_of}}}
use Rattle.c104_run.specs.{Engines.engine_network, LinkedSets.IdleOutside, RoundParts.output_walk}
use Rattle.{c104_run.specs.NotedSwitches.LeavesOthers, std.proofs.Common.{map, slice_get, ℕ, ◌≡◌, ◌≢◌}}

-- the claims of the inputs so far
abbrev pub invariant-loop-position : Rattle.c104_run.proofs.engine.Engine.claim_in_turn.Given.invariant-loop-position
invariant-loop-position g l = FairSoFar g.T.TokenKind.kind g.P.Place.keeps g.M.Meter.sees g.P.Place.shown (λ (i : ℕ). output_turns l.switch i (turns_of l.initial.turns l.switch).outputs) (turns_of l.initial.turns l.switch).inputs l.initial.self l.initial.meter l.initial.turns l.position l.changed l.self l.meter l.turns
    × LeavesOthers l.switch (states (map g.P.Place.shown l.initial.self.places)) (states (map g.P.Place.shown l.self.places))
    × ((k : ℕ) → k ≢ l.switch → slice_get l.turns k ≡ slice_get l.initial.turns k)
    × IdleOutside g.T.TokenKind.kind (engine_network g.P.Place.shown l.self) (output_walk l.switch) l.wanting
