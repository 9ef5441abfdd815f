use Rattle.c104_run.specs.{Engines.engine_network, RoundParts.{AreIdle, output_walk}}
use Rattle.{c104_crossbar.specs.Groups.has_bit, std.proofs.Common.{false, ℕ, ◌-◌, ◌<◌, ◌≡◌}}
use Rattle.c104_run.proofs.engine.Engine.wanting.Given as goal

-- of the inputs so far those that aren't in the set claim nothing
abbrev pub invariant-loop-input : goal.invariant-loop-input
invariant-loop-input g l = (i : ℕ) → i < l.from → i < 32 → has_bit l.wanting i ≡ false → AreIdle g.T.TokenKind.kind (engine_network g.P.Place.shown l.initial.self) (output_walk l.switch i)

abbrev pub decreases-loop-input : goal.decreases-loop-input
decreases-loop-input g l = 32 - l.from
