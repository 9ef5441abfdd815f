use Rattle.{c104_event.specs.declared.events.Event.Event, c104_run.specs.{Engines.engine_network, RoundParts.AreIdle}}
use Rattle.{c104_crossbar.specs.Groups.has_bit, std.proofs.Common.{[], false, ℕ, ◌-◌, ◌<◌, ◌∷◌, ◌≡◌}}
use Rattle.c104_run.proofs.engine.Engine.claimable.Given as goal

-- of the outputs so far those that aren't in the set can't be claimed
abbrev pub invariant-loop-output : goal.invariant-loop-output
invariant-loop-output g l = (o : ℕ) → o < l.from → o < 32 → has_bit l.claimable o ≡ false → AreIdle g.T.TokenKind.kind (engine_network g.P.Place.shown l.initial.self) (Event.Claim l.switch l.input o ∷ [])

abbrev pub decreases-loop-output : goal.decreases-loop-output
decreases-loop-output g l = 32 - l.from
