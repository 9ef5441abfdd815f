use Rattle.{c104_event.specs.declared.events.Event.Event, c104_run.proofs.{PartRuns.single, StillParts.{left, tested}}}
use Rattle.{c104_run.specs.{Engines.engine_network, Standstill.has_reason}, std.proofs.Common.◌≡◌}

-- those that are left tell it
abbrev pub invariant-loop-output : Rattle.c104_run.proofs.engine.Engine.input_claims_stand.Given.invariant-loop-output
invariant-loop-output g l = left (has_reason (engine_network g.P.Place.shown l.self)) (single (Event.Claim l.switch l.input)) 32 l.output ≡ tested (has_reason (engine_network g.P.Place.shown l.self)) (single (Event.Claim l.switch l.input)) 32
