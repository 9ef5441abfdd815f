use Rattle.c104_run.{proofs.StillParts.{left, tested}, specs.{Engines.engine_network, RoundParts.output_walk, Standstill.has_reason}}
use Rattle.std.proofs.Common.{◌≡◌}

-- those that are left tell it
abbrev pub invariant-loop-input : Rattle.c104_run.proofs.engine.Engine.switch_claims_stand.Given.invariant-loop-input
invariant-loop-input g l = left (has_reason (engine_network g.P.Place.shown l.self)) (output_walk l.switch) 32 l.input ≡ tested (has_reason (engine_network g.P.Place.shown l.self)) (output_walk l.switch) 32
